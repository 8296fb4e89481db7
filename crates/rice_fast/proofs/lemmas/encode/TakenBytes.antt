-- Samples that bytes spell, one piece after another.
use Rattle.rice_fast.proofs.Words.{◌≡◌, ◌≢◌, ℕ, ◌+◌, ◌-◌, ◌*◌, ◌^◌, ◌<◌, ◌≤◌, List, [], ◌∷◌, ◌++◌, length, take, drop, ℤ, refl, ap, arith, sym, ◌∙◌, subst, append_assoc, append-nil, nat_tests}
use Rattle.rice_fast.proofs.Words.{take-append-drop, take_at, drop-drop, All-append, All-from_recursion, recursion_from_All, Parameters, IsLegal, IsSample, width, IsNoSpelling, Reads, ordered_bytes}
use Rattle.rice_fast.proofs.Words.{spelling, spellings, IsValue, twos_complement, level_spelled, wider_value, length-spelling, length-spellings, some_width, spellings-append, pattern_fits, same_level}

-- one spelling is of one sample
pub one_sample : (s : Parameters) (x y : ℤ) → IsLegal s → IsSample s x → IsSample s y → spelling s x ≡ spelling s y → x ≡ y
one_sample s x y legal kx ky e =
    let k = width s in
    let holds : s.bits ≤ 8 * k = grind (arith, nat_tests, legal.bits_to) in
    let some : 1 ≤ k = grind (arith, nat_tests) in
    let few : k ≤ 4 = grind (arith, nat_tests) in
    let len = length-spelling s x in
    let word = twos_complement (8 * k) x in
    let vx : IsValue (8 * k) s.signed x = wider_value s.bits (8 * k) s.signed x legal.bits_from holds kx in
    let below : word < 2 ^ (8 * k) = pattern_fits (record s { bits = 8 * k }) x (omega arith) vx in
    let spelled : spelling s x ≡ ordered_bytes s.msb (length (spelling s x)) word = ap (λ n. ordered_bytes s.msb n word) (sym len) in
    let fits : word < 2 ^ (8 * length (spelling s x)) = subst (λ (n : ℕ). word < 2 ^ (8 * n)) (sym len) below in
    let lx = level_spelled word x legal (record {
      order = refl;
      offset_is = refl;
      width_is = refl;
      len = len;
      enough = holds;
      some = some;
      ordered = spelled;
      fits = fits;
    }) few kx refl in
    let ly = level_spelled word y legal (record {
      order = refl;
      offset_is = refl;
      width_is = refl;
      len = len;
      enough = holds;
      some = some;
      ordered = spelled;
      fits = fits;
    }) few ky e in
    same_level s x y kx ky (sym lx ∙ ly)

-- no bytes spell no samples
pub reads_none : (s : Parameters) (bytes : List ℕ) (n : ℕ) → n ≡ 0 → Reads s bytes [] (drop n bytes)
reads_none s bytes n e = record { split = ap (λ m. drop m bytes) (sym e); legal = All-from_recursion (IsSample s) [] tt }

-- after the bytes that are read come those of more samples
pub reads_more : {s : Parameters} {bytes : List ℕ} {xs ys : List ℤ} (n k : ℕ) → Reads s bytes xs (drop n bytes) → Reads s (take k (drop n bytes)) ys [] → Reads s bytes (xs ++ ys) (drop (n + k) bytes)
reads_more {s} {bytes} {xs} {ys} n k first more =
    let rest = drop n bytes in
    let parts : rest ≡ spellings s ys ++ drop k rest = sym (take-append-drop k rest) ∙ ap (λ v. v ++ drop k rest) (more.split ∙ append-nil (spellings s ys)) in
    let after : drop k rest ≡ drop (n + k) bytes = drop-drop k n bytes in
    record {
      split = first.split ∙ (ap (λ v. spellings s xs ++ v) (parts ∙ ap (λ v. spellings s ys ++ v) after)
          ∙ (sym (append_assoc (spellings s xs) (spellings s ys) (drop (n + k) bytes)) ∙ ap (λ v. v ++ drop (n + k) bytes) (sym (spellings-append s xs ys))));
      legal = All-append (IsSample s) xs ys first.legal more.legal;
    }

-- the bytes of one sample
pub reads_one : (s : Parameters) (bytes : List ℕ) (x : ℤ) → IsSample s x → bytes ≡ spelling s x → Reads s bytes (x ∷ []) []
reads_one s bytes x legal e = record { split = e ∙ (sym (append-nil (spelling s x)) ∙ sym (append-nil (spelling s x ++ []))); legal = All-from_recursion (IsSample s) (x ∷ []) (legal, tt) }

-- samples have as many bytes as their width says
pub samples_counted : (s : Parameters) (bytes : List ℕ) (xs : List ℤ) (n : ℕ) → Reads s bytes xs [] → length bytes ≡ width s * n → length xs ≡ n
samples_counted s bytes xs n read len =
    let all = ap length (read.split ∙ append-nil (spellings s xs)) in
    let spelled = length-spellings s xs in
    same (width s) (length xs) n (some_width s) (omega (arith, all, spelled, len))
  where
    same : (w m n : ℕ) → 1 ≤ w → w * m ≡ w * n → m ≡ n
    same w m n some e = grind (arith, e, some)

-- the sample that stands first
pub first_of_samples : (s : Parameters) (bytes : List ℕ) (x : ℤ) (xs : List ℤ) → IsLegal s → IsSample s x → take (width s) bytes ≡ spelling s x → Reads s bytes xs [] → 0 < length xs
    → (ys : List ℤ) × (xs ≡ x ∷ ys)
first_of_samples s bytes x [] legal sample e read some = absurd (omega arith)
first_of_samples s bytes x (y ∷ ys) legal sample e read some =
    let own = recursion_from_All (IsSample s) (y ∷ ys) read.legal in
    let front : take (width s) bytes ≡ spelling s y =
    ap (take (width s)) (read.split ∙ append_assoc (spelling s y) (spellings s ys) []) ∙ take_at (spelling s y) (spellings s ys ++ []) (width s) (length-spelling s y) in
    (ys, ap (λ v. v ∷ ys) (one_sample s y x legal own.0 sample (sym front ∙ e)))

-- bytes that are those of no sample spell none
pub no_spelling : (s : Parameters) (w i : ℕ) (bytes : List ℕ) → w ≡ width s
    → ((x : ℤ) → IsSample s x → take (w * i + w - w * i) (drop (w * i) bytes) ≢ spelling s x) → IsNoSpelling s (drop (width s * i) bytes)
no_spelling s w i bytes e h = λ x sample spells.
    let m : w * i + w - w * i ≡ width s = omega (arith, e) in
    h x sample ((λ j. take (m j) (drop (e j * i) bytes)) ∙ spells)
