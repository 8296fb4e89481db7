-- Blocks of a run that are written several at a time.
use Rattle.std.proofs.Common.{◌≡◌, ℕ, zero, suc, ◌+◌, ◌-◌, ◌*◌, ◌/◌, ◌%◌, ◌<◌, ◌≤◌, List, [], ◌∷◌, ◌++◌, length, take, drop}
use Rattle.std.proofs.Common.{replicate, refl, sym, ◌∙◌, ap, subst, arith, append-nil, append_assoc, get_or, length-append, length-drop, take-append-drop, take-take, Option, Some, None, ℤ}
use Rattle.rice_stream.proofs.Words.{IfSome, Ok, copy_within, div-add-mod, lt_of_mul-lt-mul_left, mod-lt, mul-le-mul_left, mul-le-mul_right, paste, take-append-add, take-append_seam, take-paste}
use Rattle.rice_stream.proofs.Words.{length-replicate, drop-drop, take-append-le, replicate-append-replicate, take_all, Reader, Room, Appends, Parameters, IsLegal, width, spelling, spellings}
use Rattle.rice_stream.proofs.Words.{zero_block, GivesFromRun, RepeatsBlocks, DecoderState, last_replicate, cut_to, Block, Appends-trans, length-spellings, spellings-append, wanted_of}
use Rattle.rice_stream.proofs.Words.{DecodingProgress, FailsInRun, WritesRun, repeated, TakesPart, DecodesBetween, DecodesWithin, Reports, Report, Fault, Write, Advances}
use Rattle.rice_stream.proofs.lemmas.{DecodingEnds.nothing_read, DecodingEnds.progress_with_block, DecodingEnds.reports_within, DecodingEnds.write_ends, DecodingLemmas.gains_block}

-- the front of a repeated pattern
pub take-repeated : (m n : ℕ) (xs : List ℕ) → m ≤ n → take (length xs * m) (repeated n xs) ≡ repeated m xs
take-repeated zero n xs h = ap (λ k. take k (repeated n xs)) (let e : length xs * 0 ≡ 0 = omega arith in e)
take-repeated (suc m) zero xs h = absurd (omega (arith, h))
take-repeated (suc m) (suc n) xs h =
    let e : length xs * suc m ≡ length xs + length xs * m = omega arith in
    ap (λ k. take k (xs ++ repeated n xs)) e ∙ (take-front xs (repeated n xs) (length xs * m) ∙ ap (λ l. xs ++ l) (take-repeated m n xs (omega (arith, h))))
  where
    take-front : (xs ys : List ℕ) (k : ℕ) → take (length xs + k) (xs ++ ys) ≡ xs ++ take k ys
    take-front [] ys k = (let e : 0 + k ≡ k = omega arith in ap (λ n. take n ys) e)
    take-front (x ∷ xs) ys k = (let e : length (x ∷ xs) + k ≡ suc (length xs + k) = omega arith in ap (λ n. take n (x ∷ (xs ++ ys))) e ∙ ap (λ l. x ∷ l) (take-front xs ys k))

-- a pattern repeated m times, and then n times, is repeated m + n times
pub repeated-append : (m n : ℕ) (xs : List ℕ) → repeated m xs ++ repeated n xs ≡ repeated (m + n) xs
repeated-append zero n xs = (let e : n ≡ 0 + n = omega arith in ap (λ m. repeated m xs) e)
repeated-append (suc m) n xs = append_assoc xs (repeated m xs) (repeated n xs) ∙ ap (λ l. xs ++ l) (repeated-append m n xs)
    ∙ (let e : suc (m + n) ≡ suc m + n = omega arith in ap (λ k. repeated k xs) e)

-- the spellings of one sample again and again
pub spellings-repeat : (s : Parameters) (n : ℕ) (x : ℤ) → spellings s (replicate n x) ≡ repeated n (spelling s x)
spellings-repeat s zero x = refl
spellings-repeat s (suc n) x = ap (λ l. spelling s x ++ l) (spellings-repeat s n x)

-- a pattern of one byte, repeated, is this byte again and again
pub repeated-byte : (n b : ℕ) → repeated n (b ∷ []) ≡ replicate n b
repeated-byte zero b = refl
repeated-byte (suc n) b = ap (λ l. b ∷ l) (repeated-byte n b)

-- an outlet stands between two parts that it took
pub Appends-split : (a c : Option Room) (bs cs : List ℕ) → Appends a c (bs ++ cs) → (b : Option Room) × Appends a b bs × Appends b c cs
Appends-split None c bs cs h = (None, tt, tt)
Appends-split (Some x) None bs cs h = absurd h
Appends-split (Some x) (Some y) bs cs h =
    let all : length (bs ++ cs) ≡ length bs + length cs = length-append bs cs in (
      Some (record { borrow = x.borrow; bytes = x.bytes ++ bs; rest = drop (length bs) x.rest }),
      record { borrow = refl; bytes = refl; rest = refl },
      record { borrow = h.borrow; bytes = h.bytes ∙ sym (append_assoc x.bytes bs cs); rest = h.rest ∙ (ap (λ n. drop n x.rest) all ∙ sym (drop-drop (length cs) (length bs) x.rest)) },
    )

-- Where an outlet took nothing more.
pub progress_put : {I : Type 0} {s : Parameters} {asked : Option ℕ} {start : Reader I} {out_old out out_new : Option Room} {p : DecoderState} {r : Reader I} {steps written : ℕ}
    → DecodingProgress s asked start out_old out p r steps written → Appends out out_new [] → DecodingProgress s asked start out_old out_new p r steps written
progress_put {s = s} {asked = asked} {out_old = out_old} {out = out} {out_new = out_new} runs put = record {
  blocks = runs.blocks;
  front = runs.front;
  given = runs.given;
  sets = runs.sets;
  begun = runs.begun;
  at_block = runs.at_block;
  going = runs.going;
  reads = runs.reads;
  idle = runs.idle;
  limit = runs.limit;
  has_read = runs.has_read;
  has_sets = runs.has_sets;
  before = runs.before;
  decoded = runs.decoded;
  has_written = record {
    wanted = runs.has_written.wanted;
    count = runs.has_written.count;
    asked_for = runs.has_written.asked_for;
    put = subst (λ (l : List ℕ). Appends out_old out_new l) (append-nil (spellings s (cut_to s asked 0 runs.given)))
        (Appends-trans out_old out out_new (spellings s (cut_to s asked 0 runs.given)) [] runs.has_written.put put);
  };
  has_steps = runs.has_steps;
}

-- a block of a run is one more
pub run_is_more : (p m : DecoderState) (samples : List ℤ) → GivesFromRun p m samples → p.run ≡ 1 + m.run
run_is_more p m samples g = omega (arith, ap length g.gives.blocks_are, length-replicate m.run (zero_block p.setting None), length-replicate p.run (zero_block p.setting None))

-- a block of a run needs no bit
pub advances_in_run : {I : Type 0} (r : Reader I) (steps : ℕ) (p m : DecoderState) (samples : List ℤ) → GivesFromRun p m samples → Advances r r steps steps p m samples (Ok Block)
advances_in_run r steps p m samples g = record { in_run = λ _ _. (refl, g, refl, refl); reads = λ _ none. absurd (let e = run_is_more p m samples g in omega (arith, none, e)) }

-- the sample before, and the setting, stay
pub stays_after : (n : ℕ) (p q : DecoderState) → RepeatsBlocks n p q → (q.before ≡ p.before) × (q.setting ≡ p.setting)
stays_after zero p q e = (ap (λ r. r.before) e, ap (λ r. r.setting) e)
stays_after (suc n) p q (m, g, rest) =
    let on = stays_after n m q rest in
    (on.0 ∙ (ap (λ r. r.before) g.moves ∙ last_replicate p.before p.setting.block), on.1 ∙ ap (λ r. r.setting) g.moves)

-- all of a block is wanted
pub all_wanted : (asked : Option ℕ) (written block n : ℕ) → IfSome asked (λ k. written + block * suc n ≤ k) → wanted_of asked written block ≡ block
all_wanted None written block n h = refl
all_wanted (Some k) written block n h = let le : written + block * suc n ≤ k = h in let e : block * suc n ≡ block + block * n = omega arith in omega (arith, le, e)

-- where a block and others are wanted, the others are after it
pub more_wanted : (asked : Option ℕ) (written block n : ℕ) → IfSome asked (λ k. written + block * suc n ≤ k) → IfSome asked (λ k. written + block + block * n ≤ k)
more_wanted None written block n h = tt
more_wanted (Some k) written block n h = let le : written + block * suc n ≤ k = h in omega (arith, le)

-- blocks of a run are written
pub progress_on : {I : Type 0} {s : Parameters} {asked : Option ℕ} {start : Reader I} {out_old : Option Room} {r : Reader I} (blocks : ℕ)
    {out : Option Room} (out_new : Option Room) {p : DecoderState} (q : DecoderState) {steps written : ℕ} → IsLegal s
    → DecodingProgress s asked start out_old out p r steps written → RepeatsBlocks blocks p q → IfSome asked (λ n. written + s.block * blocks ≤ n)
    → Appends out out_new (spellings s (replicate (s.block * blocks) p.before)) → DecodingProgress s asked start out_old out_new q r (steps + s.block * blocks) (written + s.block * blocks)
progress_on {s = s} {asked = asked} {start = start} {out_old = out_old} {r = r} zero {out} out_new {p} q {steps} {written} legal runs same wanted put =
    let nothing : s.block * 0 ≡ 0 = omega arith in
    let none : spellings s (replicate (s.block * 0) p.before) ≡ [] = ap (λ n. spellings s (replicate n p.before)) nothing in
    let there = progress_put runs (subst (λ (l : List ℕ). Appends out out_new l) none put) in
    let a : steps ≡ steps + s.block * 0 = omega (arith, nothing) in
    let b : written ≡ written + s.block * 0 = omega (arith, nothing) in
    subst (λ (d : DecoderState). DecodingProgress s asked start out_old out_new d r (steps + s.block * 0) (written + s.block * 0)) (sym same)
    (subst (λ (n : ℕ). DecodingProgress s asked start out_old out_new p r n (written + s.block * 0)) a (subst (λ (n : ℕ). DecodingProgress s asked start out_old out_new p r steps n) b there))
progress_on {s = s} {asked = asked} {start = start} {out_old = out_old} {r = r} (suc n) {out} out_new {p} q {steps} {written} legal runs (m, g, rest) wanted put =
    let x = p.before in
    let at = runs.at_block in
    let xs = replicate p.setting.block x in
    let own : replicate p.setting.block x ≡ replicate s.block x = ap (λ t. replicate t.block x) at.setting in
    let all : s.block * suc n ≡ s.block + s.block * n = omega arith in
    let text : spellings s (replicate (s.block * suc n) x) ≡ spellings s (replicate s.block x) ++ spellings s (replicate (s.block * n) x) =
    ap (λ k. spellings s (replicate k x)) all ∙ (ap (spellings s) (sym (replicate-append-replicate s.block (s.block * n) x)) ∙ spellings-append s (replicate s.block x) (replicate (s.block * n) x)) in
    let parts = Appends-split out out_new (spellings s (replicate s.block x)) (spellings s (replicate (s.block * n) x)) (subst (λ (l : List ℕ). Appends out out_new l) text put) in
    let whole : take s.block xs ≡ replicate s.block x = ap (take s.block) own ∙ take_all s.block (replicate s.block x) (omega (arith, length-replicate s.block x)) in
    let first = subst (λ (l : List ℤ). Appends out parts.0 (spellings s l)) (sym whole) parts.1 in
    let is = all_wanted asked written s.block n wanted in
    let j : 2 ≤ s.block = grind (arith, legal.block) in
    let more = run_is_more p m xs g in
    let few : s.block + m.run * s.block ≤ p.run * s.block + 456 * (r.taken - r.taken) =
    (let e : p.run * s.block ≡ s.block + m.run * s.block = ap (λ k. k * s.block) more ∙ omega arith in omega (arith, e)) in
    let limit = runs.limit in
    let here = progress_with_block legal runs (sym is) (λ none. omega (arith, none, is, j)) (gains_block legal runs (advances_in_run r steps p m xs g)) g.moves
    (record { counted = record { forward = omega arith; limit = limit; least = omega arith; most = omega arith }; few = few }) refl first in
    let before : m.before ≡ x = ap (λ r. r.before) g.moves ∙ last_replicate x p.setting.block in
    let second = subst (λ (z : ℤ). Appends parts.0 out_new (spellings s (replicate (s.block * n) z))) (sym before) parts.2 in
    let done = progress_on n out_new q legal here rest (more_wanted asked written s.block n wanted) second in
    let a : steps + s.block + s.block * n ≡ steps + s.block * suc n = omega (arith, all) in
    let b : written + s.block + s.block * n ≡ written + s.block * suc n = omega (arith, all) in
    subst (λ (k : ℕ). DecodingProgress s asked start out_old out_new q r k (written + s.block * suc n)) a
    (subst (λ (k : ℕ). DecodingProgress s asked start out_old out_new q r (steps + s.block + s.block * n) k) b done)

-- blocks of a run that were written go on with what was decoded so far
pub progress_with_run : {I : Type 0} {s : Parameters} {asked : Option ℕ} {start : Reader I} {out_old out out_new : Option Room} {p q : DecoderState}
    {r : Reader I} {steps written count steps_next : ℕ} → IsLegal s
    → DecodingProgress s asked start out_old out p r steps written → WritesRun s asked written p q out out_new count → steps_next ≡ steps + count
    → DecodingProgress s asked start out_old out_new q r steps_next (written + count)
progress_with_run {s = s} {asked = asked} {start = start} {out_old = out_old} {out = out} {out_new = out_new} {p = p} {q = q} {r = r} {steps = steps}
    {written = written} {count = count} legal runs w ticked =
    let e = w.count_is in
    let done = progress_on w.blocks out_new q legal runs w.passes (subst (λ (n : ℕ). IfSome asked (λ k. written + n ≤ k)) e w.wanted)
    (subst (λ (n : ℕ). Appends out out_new (spellings s (replicate n p.before))) e w.put) in
    let at = subst (λ (n : ℕ). DecodingProgress s asked start out_old out_new q r (steps + n) (written + n)) (sym e) done in
    subst (λ (n : ℕ). DecodingProgress s asked start out_old out_new q r n (written + count)) (sym ticked) at

-- the outlet fails in a run
pub run_fails : {I : Type 0} {s : Parameters} {asked : Option ℕ} {start : Reader I} {out_old out out_new : Option Room} {p : DecoderState} {r : Reader I}
    {steps written count steps_new all : ℕ} {rep : Report} {f : Option Fault} {left : Option (List ℕ)} {failed : ℕ} → IsLegal s
    → DecodingProgress s asked start out_old out p r steps written → FailsInRun s asked written p out out_new count → steps_new ≡ steps + count → all ≡ written + count
    → Reports rep f left failed r all steps_new (Some Write) → DecodesBetween s asked start.left left out_old out_new rep f
run_fails {s = s} {asked = asked} {start = start} {out_old = out_old} {out = out} {out_new = out_new} {p = p} {r = r} {steps = steps} {written = written}
    {count = count} {steps_new = steps_new} {all = all} {rep = rep} {f = f} {left = left} {failed = failed} legal runs w ticked are tells =
    let e = w.count_is in
    let middle = w.middle in
    let so_far : IfSome asked (λ k. written + s.block * w.blocks ≤ k) = by_asked asked w.wanted in
    let done = progress_on w.blocks w.room middle legal runs w.passes so_far (subst (λ (n : ℕ). Appends out w.room (spellings s (replicate n p.before))) e w.put) in
    let at = subst (λ (n : ℕ). DecodingProgress s asked start out_old w.room middle r (steps + n) (written + n)) (sym e) done in
    let kept = stays_after w.blocks p middle w.passes in
    let m = w.next.0 in
    let g = w.next.1 in
    let xs = replicate middle.setting.block middle.before in
    let setting : middle.setting ≡ s = kept.1 ∙ runs.at_block.setting in
    let own : xs ≡ replicate s.block p.before = (λ j. replicate (setting j).block (kept.0 j)) in
    let whole : take s.block xs ≡ replicate s.block p.before = ap (take s.block) own ∙ take_all s.block (replicate s.block p.before) (omega (arith, length-replicate s.block p.before)) in
    let part = subst (λ (l : List ℤ). TakesPart w.room out_new (spellings s l)) (sym whole) w.part in
    let is = all_wanted asked (written + count) s.block 0 (one_more asked w.wanted) in
    let j : 2 ≤ s.block = grind (arith, legal.block) in
    let reported = subst (λ (n : ℕ). Reports rep f left failed r n (steps + count) (Some Write)) are (subst (λ (n : ℕ). Reports rep f left failed r all n (Some Write)) ticked tells) in
    write_ends s.block m legal at (sym is) (λ none. omega (arith, none, is, j)) (gains_block legal at (advances_in_run r (steps + count) middle m xs g)) part reported
  where
    by_asked : (asked : Option ℕ) → IfSome asked (λ n. written + count + s.block ≤ n) → IfSome asked (λ k. written + s.block * w.blocks ≤ k)
    by_asked None h = tt
    by_asked (Some k) h = let le : written + count + s.block ≤ k = h in let c = w.count_is in omega (arith, le, c)

    one_more : (asked : Option ℕ) → IfSome asked (λ n. written + count + s.block ≤ n) → IfSome asked (λ k. written + count + s.block * suc 0 ≤ k)
    one_more None h = tt
    one_more (Some k) h = let le : written + count + s.block ≤ k = h in omega (arith, le)

-- and what is reported there is within the bounds
pub run_within : {I : Type 0} {s : Parameters} {asked : Option ℕ} {start : Reader I} {out_old out out_new : Option Room} {p : DecoderState} {r : Reader I}
    {steps written count steps_new all : ℕ} {rep : Report} {f fault : Option Fault} {left : Option (List ℕ)} {failed : ℕ}
    → DecodingProgress s asked start out_old out p r steps written → FailsInRun s asked written p out out_new count → steps_new ≡ steps + count → all ≡ written + count
    → Reports rep f left failed r all steps_new fault → DecodesWithin asked rep
run_within {s = s} {asked = asked} {p = p} {written = written} {count} {all = all} runs w ticked are tells =
    let some : w.blocks * s.block ≤ p.run * s.block = mul-le-mul_right s.block (omega (arith, w.within)) in
    reports_within count (omega (arith, some, w.count_is)) runs.has_steps (nothing_read runs) (by_asked asked w.wanted) are ticked tells
  where
    by_asked : (asked : Option ℕ) → IfSome asked (λ n. written + count + s.block ≤ n) → IfSome asked (λ n. all ≤ n)
    by_asked None h = tt
    by_asked (Some k) h = let le : written + count + s.block ≤ k = h in omega (arith, le, are)

-- the first copy of a pattern
pub first-copy : (pattern front old : List ℕ) (count : ℕ) → front ≡ pattern → 1 ≤ count → length old ≡ length pattern * count
    → (length (front ++ drop (length pattern) old) ≡ length pattern * count) × (take (length pattern * 1) (front ++ drop (length pattern) old) ≡ pattern ++ [])
first-copy pattern front old count same some len =
    let w = length pattern in
    let few : w * 1 ≤ w * count = mul-le-mul_left w some in
    let one : w * 1 ≡ w = omega arith in (
      length-append front (drop w old) ∙ (let a = ap length same in let b = length-drop w old in omega (arith, a, b, len, few, one)),
      ap (λ n. take n (front ++ drop w old)) one ∙ (ap (λ l. take w (l ++ drop w old)) same ∙ (take-append_seam pattern (drop w old) ∙ sym (append-nil pattern))),
    )

-- more copies after those that there are
pub copied-on : (pattern bytes : List ℕ) (done more count : ℕ) → more ≤ done → done + more ≤ count → length bytes ≡ length pattern * count → take (length pattern * done) bytes ≡ repeated done pattern
    → take (length pattern * (done + more)) (copy_within bytes 0 (length pattern * more) (length pattern * done)) ≡ repeated (done + more) pattern
copied-on pattern bytes done more count inside few len copies =
    let w = length pattern in
    let all : w * (done + more) ≤ w * count = mul-le-mul_left w few in
    let both : w * (done + more) ≡ w * done + w * more = omega arith in
    let place : w * done ≤ length bytes = omega (arith, all, both, len) in
    let long : w * more ≤ length bytes = omega (arith, all, both, len) in
    let part : w * more ≤ w * done = mul-le-mul_left w inside in
    let nothing : w * more - 0 ≡ w * more = omega arith in
    let again : take (w * more) bytes ≡ repeated more pattern = sym (take-take (w * more) (w * done) bytes part) ∙ (ap (take (w * more)) copies ∙ take-repeated more done pattern inside) in
    ap (λ n. take n (copy_within bytes 0 (w * more) (w * done))) both
    ∙ (ap (λ n. take (w * done + w * more) (paste bytes (w * done) bytes n)) nothing
    ∙ (take-paste bytes (w * done) bytes (w * more) place long ∙ ((λ j. copies j ++ again j) ∙ repeated-append done more pattern)))

-- one byte again and again
pub filled-byte : (s : Parameters) (x : ℤ) (n : ℕ) (pattern : List ℕ) → pattern ≡ spelling s x → length pattern ≡ 1 → replicate n (get_or pattern 0 0) ≡ spellings s (replicate n x)
filled-byte s x n (b ∷ []) is one = sym (repeated-byte n b) ∙ (ap (repeated n) is ∙ sym (spellings-repeat s n x))
filled-byte s x n _ is one = absurd (omega (arith, one))

-- a decoder after some of the blocks of a run, and the one after them
pub repeats-split : (n k m : ℕ) (p q : DecoderState) → m ≡ n + suc k → RepeatsBlocks m p q → (middle : DecoderState) × RepeatsBlocks n p middle × (last : DecoderState) × RepeatsBlocks 1 middle last
repeats-split zero k (suc j) p q e (m, g, rest) = (p, refl, m, (m, g, refl))
repeats-split (suc n) k (suc j) p q e (m, g, rest) =
    let on = repeats-split n k j m q (omega (arith, e)) rest in
    (on.0, (m, g, on.1), on.2, on.3)
repeats-split _ k zero p q e h = absurd (omega (arith, e))

-- how many bytes a sample that is repeated takes
length-repeat : (s : Parameters) (n : ℕ) (x : ℤ) → length (spellings s (replicate n x)) ≡ width s * n
length-repeat s n x = length-spellings s (replicate n x) ∙ ap (λ k. width s * k) (length-replicate n x)

spellings-more : (s : Parameters) (n m : ℕ) (x : ℤ) → spellings s (replicate (n + m) x) ≡ spellings s (replicate n x) ++ spellings s (replicate m x)
spellings-more s n m x = ap (spellings s) (sym (replicate-append-replicate n m x)) ∙ spellings-append s (replicate n x) (replicate m x)

-- a part of the next block's bytes
pub part_of : (old new : Option Room) (bytes : List ℕ) (r : ℕ) → r < length bytes → Appends old new (take r bytes) → TakesPart old new bytes
part_of old new bytes r short h = record {
  front = take r bytes;
  missing = drop r bytes;
  split = sym (take-append-drop r bytes);
  short = λ e. omega (arith, ap length e, length-drop r bytes, short);
  took = h;
}

-- the bytes of a sample and the samples of a block
pub record SizesOfBlocks (s : Parameters) (w b : ℕ) : Type 0 where
  pub block : 1 ≤ s.block
  pub width_some : 1 ≤ width s
  pub width_is : w ≡ width s
  pub block_is : b ≡ s.block

-- an outlet failed after so many bytes of the blocks of a run
pub run_cut : {s : Parameters} {asked : Option ℕ} {written : ℕ} (m : ℕ) {taken w b : ℕ} {p : DecoderState} (q : DecoderState) {old new : Option Room} {spelled : List ℕ} → SizesOfBlocks s w b
    → RepeatsBlocks m p q → q.run + m ≡ p.run → IfSome asked (λ n. written + s.block * m ≤ n) → spelled ≡ spellings s (replicate (b * m) p.before)
    → taken < length spelled → Appends old new (take taken spelled) → FailsInRun s asked written p old new (taken / (w * b) * b)
run_cut {s} {asked} {written} m {taken} {w} {b} {p} q {old} {new} {spelled} sizes passes left wanted is short put =
    let x = p.before in
    let j = s.block in
    let each = width s * j in
    let same : w * b ≡ each = (λ i. sizes.width_is i * sizes.block_is i) in
    let n = taken / (w * b) in
    let r = taken % (w * b) in
    let positive : 1 ≤ each = mul_positive (width s) j sizes.width_some sizes.block in
    let below : r < each = subst (λ k. r < k) same (mod-lt taken (omega (arith, same, positive))) in
    let split : each * n + r ≡ taken = ap (λ k. k * n + r) (sym same) ∙ div-add-mod taken (w * b) in
    let many : spelled ≡ spellings s (replicate (j * m) x) = is ∙ ap (λ k. spellings s (replicate (k * m) x)) sizes.block_is in
    let long : length spelled ≡ each * m = ap length many ∙ (length-repeat s (j * m) x ∙ omega arith) in
    let inside : n < m = lt_of_mul-lt-mul_left each (omega (arith, split, short, long)) in
    let k = m - n - 1 in
    let all : m ≡ n + suc k = omega (arith, inside) in
    let parts : j * m ≡ j * n + (j + j * k) = ap (λ z. j * z) all ∙ omega arith in
    let first = spellings s (replicate (j * n) x) in
    let second = spellings s (replicate j x) in
    let third = spellings s (replicate (j * k) x) in
    let text : spelled ≡ first ++ (second ++ third) = many
    ∙ (ap (λ z. spellings s (replicate z x)) parts ∙ (spellings-more s (j * n) (j + j * k) x ∙ ap (λ l. first ++ l) (spellings-more s j (j * k) x))) in
    let first_len : length first ≡ each * n = length-repeat s (j * n) x ∙ omega arith in
    let second_len : length second ≡ each = length-repeat s j x in
    let place : taken ≡ length first + r = omega (arith, split, first_len) in
    let cut : take taken spelled ≡ first ++ take r second = (λ i. take (place i) (text i))
    ∙ (take-append-add first (second ++ third) r ∙ ap (λ l. first ++ l) (take-append-le r second third (omega (arith, below, second_len)))) in
    let apart = Appends-split old new first (take r second) (subst (λ (l : List ℕ). Appends old new l) cut put) in
    let count : n * b ≡ j * n = ap (λ z. n * z) sizes.block_is ∙ omega arith in
    let stop = repeats-split n k m p q all passes in
    record {
      blocks = n;
      count_is = count;
      within = omega (arith, left, inside);
      wanted = asked_for asked (n * b) n k count parts wanted;
      middle = stop.0;
      last = stop.2;
      passes = stop.1;
      next = stop.3;
      room = apart.0;
      put = subst (λ (z : ℕ). Appends old apart.0 (spellings s (replicate z x))) (sym count) apart.1;
      part = part_of apart.0 new second r (omega (arith, below, second_len)) apart.2;
    }
  where
    mul_positive : (a b : ℕ) → 1 ≤ a → 1 ≤ b → 1 ≤ a * b
    mul_positive a b h k = let c : a * 1 ≤ a * b = mul-le-mul_left a k in omega (arith, h, c)

    asked_for : (asked : Option ℕ) (count n k : ℕ) → count ≡ s.block * n → s.block * m ≡ s.block * n + (s.block + s.block * k)
        → IfSome asked (λ z. written + s.block * m ≤ z) → IfSome asked (λ z. written + count + s.block ≤ z)
    asked_for None count n k e f h = tt
    asked_for (Some z) count n k e f h = let le : written + s.block * m ≤ z = h in omega (arith, le, e, f)

-- fewer samples of a run are to come
pub run_shrinks : {s : Parameters} {asked : Option ℕ} {written : ℕ} {p q : DecoderState} {old new : Option Room} {count : ℕ} → IsLegal s → p.setting ≡ s → WritesRun s asked written p q old new count
    → q.run * q.setting.block < p.run * p.setting.block
run_shrinks {s = s} {p = p} {q = q} legal setting w =
    let j : 2 ≤ s.block = grind (arith, legal.block) in
    let same : q.setting.block ≡ s.block = ap (λ t. t.block) ((stays_after w.blocks p q w.passes).1 ∙ setting) in
    let old : p.setting.block ≡ s.block = ap (λ t. t.block) setting in
    let run = w.run in
    let some = w.some in
    let less : (q.run + 1) * s.block ≤ p.run * s.block = mul-le-mul_right s.block (omega (arith, run, some)) in
    let more : (q.run + 1) * s.block ≡ q.run * s.block + s.block = omega arith in
    rw (same, old) (omega (arith, less, more, j))
