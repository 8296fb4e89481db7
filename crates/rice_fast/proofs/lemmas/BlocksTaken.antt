-- A block that was looked at, taken and spelled.
use Rattle.rice_fast.proofs.Words.{◌≡◌, ℕ, ℤ, suc, ◌+◌, ◌-◌, ◌*◌, ◌≤◌, Bool, List, length, take, take-take, sym, ◌∙◌, ap, subst, arith, length-take-le, Reader, Takes, Parameters, IsLegal}
use Rattle.rice_fast.proofs.Words.{value_at, values_at}
use Rattle.rice_fast.proofs.Words.{width, last_of, last_value, length-values, bits_of_set, padding, Skips, TakesSet, with_mark, DecoderState, place_after, answers_block, samples_by_bits}
use Rattle.rice_fast.proofs.Words.{GivesBytes, SpelledAhead}
use Rattle.std.proofs.Common.{◌&&◌, Contains, false, not, refl, true}
use Rattle.std.proofs.lemmas.List.Folds.{list_all_at}
use Rattle.rice_bits.specs.Reader.{is_blank}
use Rattle.rice_code.proofs.lemmas.code.OnesOfForms.{forms_have_a_one}
use Rattle.rice_fast.proofs.lemmas.vectors.HalfLanes.{last_is as last_at}

-- the bits of a block that waited are taken, at a step for each and for each turn of a search, and what fills the data set is skipped
pub record TakesBlock {I : Type 0} (start middle new : Reader I) (first steps last len searched : ℕ) (p : DecoderState) : Type 0 where
  pub bits : Takes start middle (take len start.buffered)
  pub steps_are : steps ≡ first + len + searched
  pub filled : Skips middle new (padding p.setting (p.block + 1 + 0) middle.taken)
  pub counted : last + middle.taken ≡ steps + new.taken
  pub further : middle.taken ≤ new.taken

-- Of bits that have a one, a mark before them changes nothing.
marked : {I : Type 0} {start middle : Reader I} (bits : List Bool) → Contains bits true → Takes start middle bits → Takes (with_mark start) middle bits
marked {start = start} bits (k, lt, at) takes = record {
  refills = takes.refills;
  taken = takes.taken;
  blank = takes.blank ∙ same start.blank (is_blank bits) (list_all_at not bits k true lt (ap not at));
  going = takes.going;
  failures = takes.failures;
}
  where
    same : (a b : Bool) → b ≡ false → (a && b) ≡ (true && b)
    same true b none = refl
    same false b none = sym none

-- of bits that begin with the buffered ones, a block that ends among these is buffered
pub spelled_buffered : {bits buffered : List Bool} {s : Parameters} {b : ℕ} {p : ℤ} {l len searched : ℕ} {bytes : List ℕ} → take (length buffered) bits ≡ buffered
    → len ≤ length buffered → SpelledAhead bits s b p l len searched bytes → SpelledAhead buffered s b p l len searched bytes
spelled_buffered {bits} {buffered} {len = len} begin within h =
    let block = h.ahead in
    record {
      levels = h.levels;
      ahead = record {
        set = block.set;
        form = block.form;
        run_sound = block.run_sound;
        residuals_sound = block.residuals_sound;
        within = within;
        bits = ap (take len) (sym begin) ∙ (take-take len (length buffered) bits within ∙ block.bits);
        turns_are = block.turns_are;
        few = block.few;
        legal = block.legal;
        gives = block.gives;
      };
      from = h.from;
      last_is = h.last_is;
      legal = h.legal;
      spelled = h.spelled;
    }

-- the bytes of such a block
pub bytes_given : {I : Type 0} {start middle new : Reader I} {first steps last : ℕ} {p q : DecoderState} {len l searched : ℕ} {bytes : List ℕ}
    → IsLegal p.setting → SpelledAhead start.buffered p.setting p.block p.before l len searched bytes → TakesBlock start middle new first steps last len searched p
    → q ≡ record p { block = place_after p.setting p.block 1; before = value_at p.setting l; run = 0 } → GivesBytes start new first last p q bytes
bytes_given {start} {middle} {new} {first} {steps} {last} {p} {q} {len} {l} {searched} {bytes} legal spelled takes moves =
    let s = p.setting in
    let ahead = spelled.ahead in
    let levels = spelled.levels in
    let samples = values_at s levels in
    let many : length samples ≡ length levels = length-values s levels in
    let size : length levels ≡ s.block = sym many ∙ ahead.gives.len in
    let bits : take len start.buffered ≡ bits_of_set s ahead.set = ahead.bits in
    let taken_len : length (take len start.buffered) ≡ len = length-take-le len start.buffered ahead.within in
    let taken = takes.bits.taken in
    let set : TakesSet (with_mark start) middle first steps s p.block p.before samples 0 = record {
      set = ahead.set;
      form = ahead.form;
      run_sound = ahead.run_sound;
      residuals_sound = ahead.residuals_sound;
      takes = marked (bits_of_set s ahead.set) (forms_have_a_one s p.block ahead.set legal ahead.form) (subst (Takes start middle) bits takes.bits);
      gives = ahead.gives;
      steps = omega (arith, takes.steps_are, taken, taken_len, ahead.turns_are);
    } in
    let end : length levels ≡ suc (length levels - 1) = omega (arith, size, legal.block.0) in
    let value : value_at s l ≡ last_of p.before samples =
    ap (value_at s) (spelled.last_is ∙ last_at spelled.from (length levels - 1) levels end) ∙ last_value s p.before levels (omega (arith, size, legal.block.0)) in
    let bound = samples_by_bits legal set in
    let none : q.run ≡ 0 = ap (λ r. r.run) moves in
    record {
      samples = samples;
      answers = answers_block start last p set takes.filled takes.counted value moves;
      spelled = ap (λ n. take (width s * n) bytes) many ∙ spelled.spelled;
      by_bits = rw none (omega (arith, bound, takes.further));
    }

-- a block after the place and the sample at which a decoder stands
pub spelled_at : {buffered : List Bool} {s : Parameters} {b : ℕ} {x : ℤ} (p : DecoderState) {l len searched : ℕ} {bytes : List ℕ} → p.setting ≡ s → b ≡ p.block → x ≡ p.before
    → SpelledAhead buffered s b x l len searched bytes → SpelledAhead buffered p.setting p.block p.before l len searched bytes
spelled_at {buffered} {s} {b} {x} p {l} {len} {searched} {bytes} setting block before spelled =
    subst (λ x. SpelledAhead buffered p.setting p.block x l len searched bytes) before
    (subst (λ b. SpelledAhead buffered p.setting b x l len searched bytes) block (subst (λ s. SpelledAhead buffered s b x l len searched bytes) (sym setting) spelled))
