use Rattle.rice_fast.proofs.Words.{ℕ, ℤ, zero, suc, Bool, true, false, ◌≡◌, ◌+◌, ◌-◌, ◌*◌, ◌/◌, ◌≤◌, ◌<◌, ◌∙◌}
use Rattle.rice_fast.proofs.Words.{◌++◌, [], List, length, drop, take, ap, arith, refl, rules, subst, sym, length-append, length-drop, length-take-le}
use Rattle.rice_fast.proofs.Words.{div-add-mod, mul-le-mul_left, nil_from_length, take-take, some_width, Parameters, width, Reads, BlockCoder, Standing, StandsAfter}
use Rattle.std.proofs.lemmas.List.{drop-take, take_rest}
use Rattle.rice_fast.proofs.lemmas.encode.StandingCoders.{after_none, for_again, for_open, pushes_nothing}
use Rattle.rice_fast.proofs.lemmas.{encode.EndedSegments.spelled_are_taken, encode.RunsGoOn.few_blocks, encode.TakenBytes.reads_more, encode.TakenBytes.reads_none}
use Rattle.rice_fast.proofs.encode.coder.BlockCoder.push_blocks_of_size.Goals as goal

-- whole blocks of bytes are among all bytes
inside : (len n i most : ℕ) → most ≤ n / len → i < most → len * i + len ≤ n
inside len n i most few less =
    let all : len * (i + 1) ≤ len * (n / len) = mul-le-mul_left len (omega (arith, few, less)) in
    omega (arith, all, div-add-mod n len)

all_inside : (len n most : ℕ) → most ≤ n / len → len * most ≤ n
all_inside len n most few = let all : len * most ≤ len * (n / len) = mul-le-mul_left len few in omega (arith, all, div-add-mod n len)

-- those before a block, and the others
parts : (len most i : ℕ) → i ≤ most → len * most ≡ len * i + len * (most - i)
parts len most i le = (let e : i + (most - i) ≡ most = omega (arith, le) in ap (λ n. len * n) (sym e) ∙ omega arith)

-- the bytes of a slice from a block on
abbrev rest : (len most i : ℕ) → List ℕ → List ℕ
rest len most i bytes = take (length (take (len * most) bytes) - len * i) (drop (len * i) (take (len * most) bytes))

rest_is : (len most i : ℕ) (bytes : List ℕ) → i ≤ most → rest len most i bytes ≡ take (len * (most - i)) (drop (len * i) bytes)
rest_is len most i bytes le =
    take_rest (take (len * most) bytes) (len * i) ∙ (ap (λ n. drop (len * i) (take n bytes)) (parts len most i le) ∙ drop-take (len * i) (len * (most - i)) bytes)

rest_long : (len most i : ℕ) (bytes : List ℕ) → i ≤ most → len * most ≤ length bytes → length (rest len most i bytes) ≡ len * (most - i)
rest_long len most i bytes le all =
    ap length (rest_is len most i bytes le)
    ∙ length-take-le (len * (most - i)) (drop (len * i) bytes) (omega (arith, length-drop (len * i) bytes, all, parts len most i le))

front_of_rest : (len most i t : ℕ) (bytes : List ℕ) → i + t ≤ most → take (len * t) (rest len most i bytes) ≡ take (len * t) (drop (len * i) bytes)
front_of_rest len most i t bytes le =
    let inside : len * t ≤ len * (most - i) = mul-le-mul_left len (omega (arith, le)) in
    ap (take (len * t)) (rest_is len most i bytes (omega (arith, le))) ∙ take-take (len * t) (len * (most - i)) (drop (len * i) bytes) inside

-- the bytes of blocks
as_bytes : (s : Parameters) {w known : ℕ} (x : ℕ) → w ≡ width s → known ≡ s.block → w * known * x ≡ width s * (s.block * x)
as_bytes s {w} {known} x e f = (let a : w * known * x ≡ w * (known * x) = omega arith in a ∙ (λ j. e j * (f j * x)))

pub overflow_mul-len-in-loop-i-2 : goal.overflow_mul-len-in-loop-i-2
overflow_mul-len-in-loop-i-2 g c =
    let len = c.width.result * c.known_or-known.result in
    let all = all_inside len (length c.args.bytes.now) c.blocks_to_take-most.result (omega (arith, c.blocks_to_take-most.ensures)) in
    omega (arith, all, mul-le-mul_left len c.loop-i.invariant.most)

pub overflow_mul-len-in-loop-i-3 : goal.overflow_mul-len-in-loop-i-3
overflow_mul-len-in-loop-i-3 g c =
    let len = c.width.result * c.known_or-known.result in
    let all = all_inside len (length c.args.bytes.now) c.blocks_to_take-most.result (omega (arith, c.blocks_to_take-most.ensures)) in
    omega (arith, all, mul-le-mul_left len c.loop-i.invariant.most)

pub loop-i-init : goal.loop-i-init
loop-i-init g c = record {
  stands = λ m h room. ([], omega arith, reads_none c.args.self.now.setting c.args.bytes.now (c.width.result * c.known_or-known.result * 0) (omega arith), after_none h);
  setting = refl;
  end = refl;
  held = c.requires.between;
  blocks = omega arith;
  most = omega arith;
}

pub slice_bounds-take_repeats-count : goal.slice_bounds-take_repeats-count
slice_bounds-take_repeats-count g c =
    let len = c.width.result * c.known_or-known.result in
    let all = all_inside len (length c.args.bytes.now) c.blocks_to_take-most.result (omega (arith, c.blocks_to_take-most.ensures)) in
    let before = mul-le-mul_left len c.loop-i.invariant.most in
    omega (arith, before, length-take-le (len * c.blocks_to_take-most.result) c.args.bytes.now all)

pub slice_bounds-take_repeats-start : goal.slice_bounds-take_repeats-start
slice_bounds-take_repeats-start g c =
    let len = c.width.result * c.known_or-known.result in
    let all = all_inside len (length c.args.bytes.now) c.blocks_to_take-most.result (omega (arith, c.blocks_to_take-most.ensures)) in
    let before = mul-le-mul_left len c.loop-i.invariant.most in
    omega (arith, before, length-take-le (len * c.blocks_to_take-most.result) c.args.bytes.now all)

pub take_repeats-repeated-requires-clause-inside : goal.take_repeats-repeated-requires-clause-inside
take_repeats-repeated-requires-clause-inside g c =
    let inv = c.loop-i.invariant in
    let s = c.loop-i.self.setting in
    let most = c.blocks_to_take-most.result in
    let len = c.width.result * c.known_or-known.result in
    let w = c.width.ensures.value ∙ (ap width c.requires.setting ∙ sym (ap width inv.setting)) in
    let known = c.known_or-known.ensures ∙ (c.block.ensures.value ∙ (ap (λ (v : Parameters). v.block) c.requires.setting ∙ sym (ap (λ (v : Parameters). v.block) inv.setting))) in
    let all = all_inside len (length c.args.bytes.now) most (omega (arith, c.blocks_to_take-most.ensures)) in (
      most - c.loop-i.i,
      omega (arith, inv.blocks, inv.end, inv.most, c.blocks_to_take-most.ensures),
      rest_long len most c.loop-i.i c.args.bytes.now inv.most all ∙ as_bytes s (most - c.loop-i.i) w known,
    )

pub take_repeats-repeated-requires-clause-stands : goal.take_repeats-repeated-requires-clause-stands
take_repeats-repeated-requires-clause-stands g c =
    let given = c.requires.stands in
    let taken = c.loop-i.invariant.stands given.0 given.1 given.2 in
    (c.loop-i.sink, (given.0, taken.0, taken.3, given.2))

pub end_if_whole-bits-requires-clause-stands : goal.end_if_whole-bits-requires-clause-stands
end_if_whole-bits-requires-clause-stands g c =
    let given = c.requires.stands in
    let taken = c.loop-i.invariant.stands given.0 given.1 given.2 in
    (given.0, taken.0, taken.3, given.2)

-- no more blocks are taken than there are
taken_inside : (s : Parameters) {w known : ℕ} (most i t : ℕ) (bytes : List ℕ) → w ≡ width s → known ≡ s.block → 1 ≤ s.block → i ≤ most → w * known * most ≤ length bytes
    → width s * (s.block * t) ≤ length (rest (w * known) most i bytes) → i + t ≤ most
taken_inside s {w} {known} most i t bytes e f some le all few =
    let long = rest_long (w * known) most i bytes le all in
    let t_inside : t ≤ most - i = few_blocks (width s) s.block t (most - i) (some_width s) some (omega (arith, few, long, as_bytes s (most - i) e f)) in
    omega (arith, t_inside, le)

pub overflow_add-i : goal.overflow_add-i
overflow_add-i g c =
    let inv = c.loop-i.invariant in
    let most = c.blocks_to_take-most.result in
    let len = c.width.result * c.known_or-known.result in
    let w = c.width.ensures.value ∙ (ap width c.requires.setting ∙ sym (ap width inv.setting)) in
    let known = c.known_or-known.ensures ∙ (c.block.ensures.value ∙ (ap (λ (v : Parameters). v.block) c.requires.setting ∙ sym (ap (λ (v : Parameters). v.block) inv.setting))) in
    let all = all_inside len (length c.args.bytes.now) most (omega (arith, c.blocks_to_take-most.ensures)) in
    let some : 1 ≤ c.loop-i.self.setting.block = omega (arith, known, c.known_or-known.ensures, c.block.ensures.range) in
    let few = taken_inside c.loop-i.self.setting most c.loop-i.i c.take_repeats-repeated.result c.args.bytes.now w known some inv.most all c.take_repeats-repeated.ensures.len in
    omega (arith, few)

pub loop-i-preserved-then-repeated-gt0 : goal.loop-i-preserved-then-repeated-gt0
loop-i-preserved-then-repeated-gt0 g c =
    let inv = c.loop-i.invariant in
    let s = c.args.self.now.setting in
    let s_here = c.loop-i.self.setting in
    let bytes = c.args.bytes.now in
    let most = c.blocks_to_take-most.result in
    let len = c.width.result * c.known_or-known.result in
    let i = c.loop-i.i in
    let t = c.take_repeats-repeated.result in
    let did = c.take_repeats-repeated.ensures in
    let w = c.width.ensures.value ∙ (ap width c.requires.setting ∙ sym (ap width inv.setting)) in
    let known = c.known_or-known.ensures ∙ (c.block.ensures.value ∙ (ap (λ (v : Parameters). v.block) c.requires.setting ∙ sym (ap (λ (v : Parameters). v.block) inv.setting))) in
    let all = all_inside len (length bytes) most (omega (arith, c.blocks_to_take-most.ensures)) in
    let few = taken_inside s_here most i t bytes w known (omega (arith, known, c.known_or-known.ensures, c.block.ensures.range)) inv.most all did.len in
    let others = rest len most i bytes in
    let bytes_taken : width s_here * (s_here.block * t) ≡ len * t = sym (as_bytes s_here t w known) in
    let samples = ap (λ b. b * t) known in
    let place : len * i + len * t ≡ len * (i + t) = omega arith in
    record {
      stands = λ m h room.
          let taken = inv.stands m h room in
          let more = did.takes c.if-repeated-gt0.true c.loop-i.sink m taken.0 taken.3 room in
          let own : Reads s (take (len * t) (drop (len * i) bytes)) more.0 [] =
          subst (λ v. Reads s v more.0 []) (ap (λ n. take n others) bytes_taken ∙ front_of_rest len most i t bytes few)
          (subst (λ (v : Parameters). Reads v (take (width s_here * (s_here.block * t)) others) more.0 []) inv.setting more.1) in
          let read = reads_more (len * i) (len * t) taken.2 own in (
            taken.0 ++ more.0,
            omega (arith, length-append taken.0 more.0, taken.1, more.2, samples),
            subst (λ n. Reads s bytes (taken.0 ++ more.0) (drop n bytes)) place read,
            more.3,
          );
      setting = did.setting ∙ inv.setting;
      end = did.end ∙ inv.end;
      held = did.held;
      blocks = omega (arith, did.blocks, inv.blocks);
      most = few;
    }

-- where no blocks go on a run, the coder is as before
same_coder : {old new : BlockCoder} {sink : List Bool} {meter_old meter_new : ℕ} {m : Standing} {xs : List ℤ} → (new ≡ old) × (meter_new ≡ meter_old) → StandsAfter old sink meter_old m xs
    → StandsAfter new sink meter_new m xs
same_coder {old} {new} {sink} {meter_old} {meter_new} {m} {xs} same h = subst (λ v. StandsAfter v sink meter_new m xs) (sym same.0) (subst (λ t. StandsAfter old sink t m xs) (sym same.1) h)

pub take_block-requires-clause-stands : goal.take_block-requires-clause-stands
take_block-requires-clause-stands g c =
    let given = c.requires.stands in
    let taken = c.loop-i.invariant.stands given.0 given.1 given.2 in
    (given.0, taken.0, same_coder (c.take_repeats-repeated.ensures.none (omega (arith, c.if-repeated-gt0.false))) taken.3, given.2)

pub slice_bounds-take_block-end : goal.slice_bounds-take_block-end
slice_bounds-take_block-end g c = inside (c.width.result * c.known_or-known.result) (length c.args.bytes.now) c.loop-i.i c.blocks_to_take-most.result
    (omega (arith, c.blocks_to_take-most.ensures)) (search rules)

pub loop-i-preserved : goal.loop-i-preserved
loop-i-preserved g c =
    let inv = c.loop-i.invariant in
    let s = c.args.self.now.setting in
    let len = c.width.result * c.known_or-known.result in
    let i = c.loop-i.i in
    let rep = c.take_repeats-repeated.ensures in
    let no_repeats : c.take_repeats-repeated.result ≡ 0 = omega (arith, c.if-repeated-gt0.false) in
    let set = rep.setting ∙ inv.setting in
    let did = c.take_block.ensures in
    let took : c.take_block.result ≡ true = search rules in
    let place : len * i + len ≡ len * (i + 1) = omega arith in
    let slice : len * i + len - len * i ≡ len = omega arith in
    let known = c.known_or-known.ensures ∙ (c.block.ensures.value ∙ ap (λ (v : Parameters). v.block) c.requires.setting) in
    record {
      stands = λ m h room.
          let taken = inv.stands m h room in
          let more = did.takes took m taken.0 (same_coder (rep.none no_repeats) taken.3) room in
          let own : Reads s (take len (drop (len * i) c.args.bytes.now)) more.0 [] =
          subst (λ n. Reads s (take n (drop (len * i) c.args.bytes.now)) more.0 []) slice
          (subst (λ (v : Parameters). Reads v (take (len * i + len - len * i) (drop (len * i) c.args.bytes.now)) more.0 []) set more.1) in
          let read = reads_more (len * i) len taken.2 own in
          let block = ap (λ (v : Parameters). v.block) set in (
            taken.0 ++ more.0,
            omega (arith, length-append taken.0 more.0, taken.1, more.2, block, known),
            subst (λ n. Reads s c.args.bytes.now (taken.0 ++ more.0) (drop n c.args.bytes.now)) place read,
            more.3,
          );
      setting = did.setting ∙ set;
      end = did.end ∙ (rep.end ∙ inv.end);
      held = did.held;
      blocks = omega (arith, did.blocks took, rep.blocks, no_repeats, inv.blocks);
      most = omega (arith, c.loop-i-test.true);
    }

pub returns-then-not-take_block-clause-count : goal.returns-then-not-take_block-clause-count
returns-then-not-take_block-clause-count g c =
    let len = c.width.result * c.known_or-known.result in
    let all = inside len (length c.args.bytes.now) c.loop-i.i c.blocks_to_take-most.result (omega (arith, c.blocks_to_take-most.ensures)) (search rules) in
    let w = ap (λ n. n * (c.known_or-known.result * c.loop-i.i)) (c.width.ensures.value ∙ ap width c.requires.setting) in
    omega (arith, all, w)

pub returns-then-not-take_block-clause-takes : goal.returns-then-not-take_block-clause-takes
returns-then-not-take_block-clause-takes g c m h room =
    let inv = c.loop-i.invariant in
    let rep = c.take_repeats-repeated.ensures in
    let no_repeats : c.take_repeats-repeated.result ≡ 0 = omega (arith, c.if-repeated-gt0.false) in
    let did = c.take_block.ensures in
    let s = c.args.self.now.setting in
    let failed : c.take_block.result ≡ false = search rules in
    let taken = inv.stands m h room in
    let kept = did.kept failed m taken.0 (same_coder (rep.none no_repeats) taken.3) in
    let one : 1 ≤ c.take_block.new.self.setting.block = grind (arith, kept.stands.holds.opens.legal.block) in
    let here : c.loop-i.i < c.blocks_to_take-most.result = c.loop-i-test.true in
    let less : c.take_block.new.self.blocks < c.take_block.new.self.end =
    omega (arith, did.same failed, did.end, rep.blocks, no_repeats, rep.end, inv.blocks, inv.end, here, c.blocks_to_take-most.ensures) in
    let pushed = pushes_nothing kept (omega (arith, did.held, one)) less in
    let place : c.width.result * c.known_or-known.result * c.loop-i.i ≡ width s * (c.known_or-known.result * c.loop-i.i) =
    (let e : c.width.result * c.known_or-known.result * c.loop-i.i ≡ c.width.result * (c.known_or-known.result * c.loop-i.i) = omega arith in e)
    ∙ ap (λ n. n * (c.known_or-known.result * c.loop-i.i)) (c.width.ensures.value ∙ ap width c.requires.setting) in (
      pushed.0,
      pushed.1,
      spelled_are_taken s c.args.bytes.now (c.known_or-known.result * c.loop-i.i) (c.width.result * c.known_or-known.result * c.loop-i.i)
          (sym (did.setting ∙ (rep.setting ∙ inv.setting))) kept.stands taken.1 taken.2 place pushed.2,
    )

pub returns-then-not-take_block-clause-kept : goal.returns-then-not-take_block-clause-kept
returns-then-not-take_block-clause-kept g c none m h room =
    let inv = c.loop-i.invariant in
    let rep = c.take_repeats-repeated.ensures in
    let no_repeats : c.take_repeats-repeated.result ≡ 0 = omega (arith, c.if-repeated-gt0.false) in
    let did = c.take_block.ensures in
    let failed : c.take_block.result ≡ false = search rules in
    let taken = inv.stands m h room in
    let kept = did.kept failed m taken.0 (same_coder (rep.none no_repeats) taken.3) in
    let one : 1 ≤ c.take_block.new.self.setting.block = grind (arith, kept.stands.holds.opens.legal.block) in
    for_again kept (nil_from_length taken.0 (taken.1 ∙ none)) (omega (arith, did.held, one))

pub returns-clause-count : goal.returns-clause-count
returns-clause-count g c =
    let len = c.width.result * c.known_or-known.result in
    let all = all_inside len (length c.args.bytes.now) c.blocks_to_take-most.result (omega (arith, c.blocks_to_take-most.ensures)) in
    let w = ap (λ n. n * (c.known_or-known.result * c.blocks_to_take-most.result)) (c.width.ensures.value ∙ ap width c.requires.setting) in
    omega (arith, all, w)

pub returns-clause-takes : goal.returns-clause-takes
returns-clause-takes g c m h room =
    let inv = c.loop-i.invariant in
    let s = c.args.self.now.setting in
    let taken = inv.stands m h room in
    let pushed = c.end_if_whole-bits.ensures.stands m taken.0 taken.3 room in
    let end : c.loop-i.i ≡ c.blocks_to_take-most.result = omega (arith, c.loop-i-test.false, inv.most) in
    let place : c.width.result * c.known_or-known.result * c.loop-i.i ≡ width s * (c.known_or-known.result * c.blocks_to_take-most.result) =
    (let e : c.width.result * c.known_or-known.result * c.loop-i.i ≡ c.width.result * (c.known_or-known.result * c.loop-i.i) = omega arith in e)
    ∙ λ j. (c.width.ensures.value ∙ ap width c.requires.setting) j * (c.known_or-known.result * end j) in (
      pushed.0,
      pushed.1,
      spelled_are_taken s c.args.bytes.now (c.known_or-known.result * c.blocks_to_take-most.result) (c.width.result * c.known_or-known.result * c.loop-i.i) (sym inv.setting) taken.3.stands
          (taken.1 ∙ ap (λ n. c.known_or-known.result * n) end) taken.2 place pushed.2,
    )

pub returns-clause-kept : goal.returns-clause-kept
returns-clause-kept g c none m h room =
    let some : 1 ≤ c.known_or-known.result = omega (arith, c.known_or-known.ensures, c.block.ensures.range) in
    absurd (not_none c.known_or-known.result c.blocks_to_take-most.result some (search rules) none)
  where
    not_none : (j n : ℕ) → 1 ≤ j → (n ≡ 0 → ⊥) → j * n ≡ 0 → ⊥
    not_none j zero one some none = some refl
    not_none j (suc n) one some none = omega (arith, none, one, (let m : j * suc n ≡ j * n + j = omega arith in m))

pub returns-then-most-eq0-clause-takes : goal.returns-then-most-eq0-clause-takes
returns-then-most-eq0-clause-takes g c m h room =
    let s = c.args.self.now.setting in
    let pushed = pushes_nothing (after_none h) h.held (for_open h) in
    (pushed.0, pushed.1, spelled_are_taken s c.args.bytes.now 0 0 refl (after_none h).stands refl (reads_none s c.args.bytes.now 0 refl) (omega arith) pushed.2)
