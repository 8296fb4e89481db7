use Rattle.rice_stream.proofs.Words.{rules, refl, sym, ap, subst, zero, suc, ◌∙◌, arith, ◌≡◌, ◌≢◌, ℕ, ◌*◌, ◌<◌, ◌++◌, [], ◌∷◌, Bool, false, take, drop, append-nil, List, ℤ, w64, FitsSigned, All}
use Rattle.rice_stream.proofs.Words.{to_z-of_z, All-cons, Parameters, IsSample, width, IsNoSpelling, Reads, spelling, code, code_bits, complete_samples, least_steps, most_steps, HasTaken}
use Rattle.rice_stream.proofs.Words.{PushesSamples, CoderState, Standing, TakesSpelled}
use Rattle.std.proofs.Common.{take-append-drop}
use Rattle.rice_stream.proofs.takes.CoderTakesBytes.push.Goals as goal

none_taken : (s : Parameters) (m : ℕ) (xs : List ℤ) (x : ℤ) → m < 1 → complete_samples s (xs ++ take m (x ∷ [])) ≡ complete_samples s xs
none_taken s zero xs x h = ap (complete_samples s) (append-nil xs)
none_taken s (suc m) xs x h = absurd (omega (arith, h))

-- no samples are taken
pushes_none : (c : CoderState) (sink : List Bool) (meter : ℕ) → PushesSamples c c [] sink sink 0 meter meter
pushes_none c sink meter = record {
  setting = refl;
  taken = λ xs h. subst (HasTaken c) (sym (append-nil xs)) h;
  adds = λ xs h. (let s = c.setting in
      let same = ap (complete_samples s) (append-nil xs) in
      record {
        code_is = λ aligned. record { bits = []; appended = sym (append-nil sink); completes = ap (code s) same ∙ sym (append-nil (code s (complete_samples s xs))) };
        bits = omega (arith, ap (code_bits s) same);
        steps = record { least = omega (arith, ap (least_steps s) same); most = omega (arith, ap (most_steps s) same) };
      });
}

one_sample : (s : Parameters) (x : ℤ) → IsSample s x → All (IsSample s) (x ∷ [])
one_sample s x k = All-cons (IsSample s) x [] k (λ n d lt. absurd (omega (arith, lt)))

pub returns-in-None : goal.returns-in-None
returns-in-None c m stands room =
    let own = c.args.setting.now in
    let given = c.requires in
    let bytes = c.args.bytes.now in
    let e : own ≡ m.coder.setting = sym given.3 ∙ (ap (λ m. m.coder.setting) given.1 ∙ sym (ap (λ m. m.coder.setting) stands)) in
    let none : IsNoSpelling own bytes = subst (λ w. (x : ℤ) → IsSample own x → take w bytes ≢ spelling own x) c.width-width.ensures.value c.in-None.ensures.none in
    let z : width m.coder.setting * 0 ≡ 0 = omega arith in (
      m,
      stands,
      record {
        samples = [];
        reads = record { split = ap (λ n. drop n bytes) (sym z); legal = λ k d lt. absurd (omega arith) };
        number = refl;
        none = λ e'. subst (λ s. IsNoSpelling s bytes) e none;
        pushes = pushes_none m.coder m.sink m.meter;
        before_last = λ n lt. absurd (omega (arith, lt));
        shows = ap (λ m. m.sink) stands;
      },
    )

pub returns-in-Some : goal.returns-in-Some
returns-in-Some c m stands room =
    let own = c.args.setting.now in
    let given = c.requires in
    let same : c.args.self.now.setting ≡ own = sym (ap (λ m. m.coder.setting) given.1) ∙ given.3 in
    let bytes = c.args.bytes.now in
    let x = c.in-Some.x in
    let w = width own in
    let fits : FitsSigned w64 x = search rules in
    let spelled : take w bytes ≡ spelling own x = subst (λ w. take w bytes ≡ spelling own x) c.width-width.ensures.value c.in-Some.ensures.value.1 in
    let one : w ≡ w * 1 = omega arith in
    let reads : Reads own bytes (x ∷ []) (drop (w * 1) bytes) = record {
      split = sym (take-append-drop w bytes) ∙ (λ i. (spelled ∙ sym (append-nil (spelling own x))) i ++ drop (one i) bytes);
      legal = one_sample own x c.in-Some.ensures.value.0;
    } in
    let new : Standing = record { coder = c.push_counted-bits.new.self; sink = c.push_counted-bits.new.sink; meter = c.push_counted-bits.new.meter } in (
      new,
      refl,
      subst (λ m. TakesSpelled m new bytes c.push_counted-bits.new.sink (record { samples = 1; bits = c.push_counted-bits.result; ahead = false })) (sym stands) (record {
        samples = x ∷ [];
        reads = subst (λ s. Reads s bytes (x ∷ []) (drop (width s * 1) bytes)) (sym same) reads;
        number = refl;
        none = λ e. absurd (omega (arith, e));
        pushes = rw (to_z-of_z w64 x fits) at c.push_counted-bits.ensures;
        before_last = λ n lt xs h. none_taken c.args.self.now.setting n xs x lt;
        shows = refl;
      }),
    )
