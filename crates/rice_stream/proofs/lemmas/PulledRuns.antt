-- Blocks that the decoder gives, one or those of a run, and where decoding stands after them.
use Rattle.std.proofs.Common.{◌≡◌, ℕ, zero, suc, ◌+◌, ◌-◌, ◌*◌, ◌<◌, ◌≤◌, List, [], ◌++◌, Bool, take, drop, replicate, refl, sym, ◌∙◌, ap, subst, arith, append_assoc, append-nil, None, ℤ}
use Rattle.rice_stream.proofs.Words.{Ok, length-replicate, replicate-append-replicate, Reader, Parameters, IsSample, width, spellings, RepeatsBlocks, DecoderState, IsDecoderState, Block}
use Rattle.rice_stream.proofs.Words.{last_replicate, place_moves, Origin, IsStand, GivesMore, WritesBlocksAt, IsReadFrom, ahead, stand_at, state_of, Stand, Advances}
use Rattle.rice_stream.proofs.lemmas.{PullingLemmas.Steps, PullingLemmas.gives_next, PullingLemmas.goes_on_at, RunsWritten.advances_in_run, RunsWritten.run_is_more}

-- one call of the decoder
pub gives_one : {I : Type 0} {s : Parameters} {stand next : Stand} {q : DecoderState} {r new : Reader I} {steps steps_new : ℕ} {xs : List ℤ} (o : Origin) (front : List Bool) (given : List ℤ)
    → IsStand s o stand front given → q ≡ state_of s next → Steps s stand next r new steps steps_new xs → GivesMore s stand next q r new xs
gives_one {s = s} {stand = stand} {next = next} {q = q} {r = r} {new = new} {steps = steps} {steps_new = steps_new} {xs = xs} o front given h same t = record {
  goes_on = goes_on_at s stand next r new steps steps_new xs o front given q same t h;
  gives = λ o front given h. gives_next s stand next r new steps steps_new xs o front given t h;
}

-- blocks, and others after them
pub one_and_more : {I : Type 0} {s : Parameters} {a b c : Stand} {p q : DecoderState} {r m new : Reader I} {xs ys : List ℤ}
    → GivesMore s a b p r m xs → GivesMore s b c q m new ys → GivesMore s a c q r new (xs ++ ys)
one_and_more {s = s} {c = c} {new = new} {xs = xs} {ys = ys} one two = record {
  goes_on = record { state = two.goes_on.state; reads = two.goes_on.reads; aligned = λ e. two.goes_on.aligned (one.goes_on.aligned e) };
  gives = λ o front given h.
      let g = one.gives o front given h in
      let k = two.gives o (front ++ g.bits) (given ++ xs) g.stands in
      record {
        bits = g.bits ++ k.bits;
        split = g.split ∙ ap (λ l. g.bits ++ l) k.split ∙ sym (append_assoc g.bits k.bits (ahead new));
        stands = subst (λ (l : List Bool). IsStand s o c l (given ++ (xs ++ ys))) (append_assoc front g.bits k.bits)
            (subst (λ (l : List ℤ). IsStand s o c ((front ++ g.bits) ++ k.bits) l) (append_assoc given xs ys) k.stands);
      };
}

-- no block
pub nothing_more : {I : Type 0} {s : Parameters} {stand next : Stand} {q : DecoderState} {r new : Reader I} → next ≡ stand → new ≡ r → q ≡ state_of s stand → IsReadFrom stand r
    → GivesMore s stand next q r new []
nothing_more {s = s} {stand = stand} {next = next} {q = q} {r = r} {new = new} e f same reads =
    subst (λ (n : Stand). GivesMore s stand n q r new []) (sym e) (subst (λ (t : Reader _). GivesMore s stand stand q r t []) (sym f) (record {
      goes_on = record { state = same; reads = reads; aligned = λ a. a };
      gives = λ o front given h. record {
        bits = [];
        split = refl;
        stands = subst (λ (l : List Bool). IsStand s o stand l (given ++ [])) (sym (append-nil front)) (subst (λ (l : List ℤ). IsStand s o stand front l) (sym (append-nil given)) h);
      };
    }))

-- the same stand by other numbers
other_numbers : {I : Type 0} {s : Parameters} {stand : Stand} {q : DecoderState} {r new : Reader I} {xs : List ℤ} {samples bits steps samples_new bits_new steps_new : ℕ}
    → samples ≡ samples_new → bits ≡ bits_new → steps ≡ steps_new → GivesMore s stand (stand_at samples bits steps q) q r new xs
    → GivesMore s stand (stand_at samples_new bits_new steps_new q) q r new xs
other_numbers {s = s} {stand = stand} {q} {r = r} {new = new} {xs = xs} a b c g =
    subst (λ (n : Stand). GivesMore s stand n q r new xs) (λ i. stand_at (a i) (b i) (c i) q) g

-- ---- a run

-- blocks of a run
pub run_on : {I : Type 0} (n : ℕ) {s : Parameters} {stand : Stand} (q : DecoderState) {r : Reader I} {o : Origin} {front : List Bool} {given : List ℤ}
    → IsStand s o stand front given → IsReadFrom stand r → RepeatsBlocks n (state_of s stand) q
    → GivesMore s stand (stand_at (stand.samples + s.block * n) stand.bits (stand.steps + s.block * n) q) q r r (replicate (s.block * n) stand.previous)
run_on zero {s} {stand} q {r} h reads same =
    let nothing : s.block * 0 ≡ 0 = omega arith in
    let a : stand.samples + s.block * 0 ≡ stand.samples = omega arith in
    let b : stand.steps + s.block * 0 ≡ stand.steps = omega arith in
    let here : stand_at (stand.samples + s.block * 0) stand.bits (stand.steps + s.block * 0) q ≡ stand = (λ i. stand_at (a i) stand.bits (b i) (same i)) in
    subst (λ n. GivesMore s stand (stand_at (stand.samples + s.block * 0) stand.bits (stand.steps + s.block * 0) q) q r r (replicate n stand.previous)) (sym nothing)
    (nothing_more here refl same reads)
run_on (suc n) {s} {stand} q {r} {o} {front} {given} h reads (m, g, rest) =
    let x = stand.previous in
    let p = state_of s stand in
    let xs = replicate s.block x in
    let middle = stand_at (stand.samples + s.block) stand.bits (stand.steps + s.block) m in
    let before : m.before ≡ x = ap (λ (d : DecoderState). d.before) g.moves ∙ last_replicate x s.block in
    let place : m.block ≡ _ = ap (λ (d : DecoderState). d.block) g.moves in
    let more = run_is_more p m xs g in
    let state : IsDecoderState s m.block m.before m.run None =
    place_moves m.run m.before None h.state.legal h.state.within place (subst (IsSample s) (sym before) h.state.sample)
    (λ lt. let some : 0 < stand.run = omega (arith, more) in omega (arith, more, h.state.run_fits some)) h.state.no_block in
    let setting : m.setting ≡ s = ap (λ (d : DecoderState). d.setting) g.moves in
    let stopped : m.stopped ≡ None = ap (λ (d : DecoderState). d.stopped) g.moves in
    let same : m ≡ state_of s middle = (λ i. record { setting = setting i; block = m.block; before = m.before; run = m.run; stopped = stopped i }) in
    let t : Steps s stand middle r r stand.steps stand.steps xs = record {
      state = state;
      advances = subst (λ (d : DecoderState). Advances r r stand.steps stand.steps p d xs (Ok Block)) same (advances_in_run r stand.steps p m xs g);
      counted = record { forward = omega arith; limit = omega (arith, reads.taken, h.limit); least = omega arith; most = omega arith };
      few = (let e : stand.run * s.block ≡ s.block + m.run * s.block = ap (λ k. k * s.block) more ∙ omega arith in omega (arith, e, length-replicate s.block x));
      reads = reads;
      aligned = λ none. absurd (omega (arith, none, more));
      samples = refl;
      bits = omega arith;
      steps_old = refl;
      steps_are = refl;
    } in
    let first = gives_one o front given h same t in
    let known = first.gives o front given h in
    let rest_here = subst (λ (d : DecoderState). RepeatsBlocks n d q) same rest in
    let second = run_on n q known.stands first.goes_on.reads rest_here in
    let both = one_and_more first second in
    let all : s.block + s.block * n ≡ s.block * suc n = omega arith in
    let text : xs ++ replicate (s.block * n) m.before ≡ replicate (s.block * suc n) x =
    ap (λ z. xs ++ replicate (s.block * n) z) before ∙ replicate-append-replicate s.block (s.block * n) x ∙ ap (λ k. replicate k x) all in
    let samples : stand.samples + s.block + s.block * n ≡ stand.samples + s.block * suc n = omega (arith, all) in
    let steps : stand.steps + s.block + s.block * n ≡ stand.steps + s.block * suc n = omega (arith, all) in
    subst (λ (l : List ℤ). GivesMore s stand (stand_at (stand.samples + s.block * suc n) stand.bits (stand.steps + s.block * suc n) q) q r r l) text
    (other_numbers samples refl steps both)

-- n blocks of b samples of w bytes, some
pub record BlocksOf (s : Parameters) (w b n : ℕ) : Type 0 where
  pub width_is : w ≡ width s
  pub block_is : b ≡ s.block
  pub width_some : 1 ≤ w
  pub block_some : 1 ≤ b
  pub some : 1 ≤ n

-- a run
pub run_written : {I : Type 0} {s : Parameters} {stand next : Stand} {p q : DecoderState} {r : Reader I} {w b n at : ℕ} {x : ℤ} {out out_new : List ℕ} {o : Origin} {front : List Bool} {given : List ℤ}
    → IsStand s o stand front given → IsReadFrom stand r → p ≡ state_of s stand → RepeatsBlocks n p q → BlocksOf s w b n
    → next ≡ stand_at (stand.samples + b * n) (stand.bits + (r.taken - r.taken)) (stand.steps + b * n) q → x ≡ p.before
    → out_new ≡ take at out ++ (spellings s (replicate (b * n) x) ++ drop (at + width s * (b * n)) out) → WritesBlocksAt s stand next q r r (w * (b * n)) at out out_new
run_written {s} {stand} {next} {q} {r} {w} {b} {n} {at} {x} {out} {o} {front} {given} h reads state passes sizes is same wrote =
    let count : b * n ≡ s.block * n = ap (λ k. k * n) sizes.block_is in
    let size : w * (b * n) ≡ width s * (s.block * n) = (λ i. sizes.width_is i * count i) in
    let bits : stand.bits + (r.taken - r.taken) ≡ stand.bits = omega arith in
    let there : next ≡ stand_at (stand.samples + s.block * n) stand.bits (stand.steps + s.block * n) q = is ∙ (λ i. stand_at (stand.samples + count i) (bits i) (stand.steps + count i) q) in
    let before : x ≡ stand.previous = same ∙ ap (λ (d : DecoderState). d.before) state in
    let on = run_on n q h reads (subst (λ (d : DecoderState). RepeatsBlocks n d q) state passes) in
    record {
      samples = replicate (s.block * n) stand.previous;
      more = subst (λ (t : Stand). GivesMore s stand t q r r (replicate (s.block * n) stand.previous)) (sym there) on;
      len_is = size ∙ ap (λ k. width s * k) (sym (length-replicate (s.block * n) stand.previous));
      wrote = wrote ∙ (λ i. take at out ++ (spellings s (replicate (count i) (before i)) ++ drop (at + sym sizes.width_is i * (b * n)) out));
    }
