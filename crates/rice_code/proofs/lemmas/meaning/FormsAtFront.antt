-- Bits begin with a form, or with none.
use Rattle.std.proofs.Common.{◌≡◌, ℕ, zero, suc, ◌+◌, ◌-◌, ◌/◌, ◌^◌, ◌<◌, ◌≤◌, inl, inr, Bool, true, false, map, List, [], ◌∷◌, ◌++◌, length, refl, ap, arith, sym, ◌∙◌, subst, append_assoc, Option}
use Rattle.std.proofs.Common.{Some, None}
use Rattle.rice_code.proofs.Words.{flat_map, AllByRecursion, nat_tests, cases_lt, length-map, All-from_recursion, recursion_from_All, flat_map-map, pow_pos, word_reads, sequence_reads, pieces_read}
use Rattle.rice_code.proofs.Words.{bits_read, Piece, NoPiece, Search, word_piece, bits_piece, sequence_piece, search_pieces, two_pieces, length-word, followed_by, high-followed_by, word-followed_by}
use Rattle.rice_code.proofs.Words.{Parameters, IsLegal, id_len, k_max, value_count, is_reference, pair_codes, unpaired, codes_of_unpaired, length-unpaired, count_pairs, word, fundamental_sequence}
use Rattle.rice_code.proofs.Words.{BlockData, CodedDataSet, NoCompression, SecondExtension, Split, ZeroBlocks, RemainderOfSegment, bits_of_set, sent_residuals, sent_from, reference_bits, run_number}
use Rattle.rice_code.proofs.lemmas.code.FormsReadInOneWay.{reference_reads, identifier, tail, text_is, identifier_fits, wide_id, same_below, same_all, even_block, All-coded}
use Rattle.rice_code.proofs.{Words.IsForm, Words.IsBlock, Words.IsReference, Words.IsZeroAtReference, Words.common_steps, lemmas.meaning.CoveredBlocks.bool_cases}

-- a reference
reference_piece : (s : Parameters) (b : ℕ) (bits : List Bool) → Search (reference_bits s) (IsReference s b) bits
reference_piece s b bits =
    elim (bool_cases (is_reference s b)) [
      | inr e ↦ inl (record { piece = None; more = bits; fits = record { there = sym e; fits = tt }; begins = refl })
      | inl e ↦ elim (word_piece s.bits bits) [
        | inl p ↦ inl (record { piece = Some p.piece; more = p.more; fits = record { there = sym e; fits = p.fits }; begins = p.begins })
        | inr miss ↦ inr (none e miss)
      ]
    ]
  where
    none : is_reference s b ≡ true → NoPiece (word s.bits) (λ v. v < 2 ^ s.bits) bits → NoPiece (reference_bits s) (IsReference s b) bits
    none e miss None more h f = let g : false ≡ true = h.there ∙ e in absurd cc
    none e miss (Some v) more h f = miss v more h.fits f

-- how many residuals are coded beside a reference
coded_count : Parameters → Option ℕ → ℕ
coded_count s None = s.block
coded_count s (Some v) = s.block - 1

-- and the residuals with that at the reference place
abbrev uncoded : Option ℕ → List ℕ → List ℕ
uncoded None ds = ds
uncoded (Some v) ds = 0 ∷ ds

coded_uncoded : (r : Option ℕ) (ds : List ℕ) → sent_from r (uncoded r ds) ≡ ds
coded_uncoded None ds = refl
coded_uncoded (Some v) ds = refl

length-uncoded : (s : Parameters) (r : Option ℕ) (ds : List ℕ) → 1 ≤ s.block → length ds ≡ coded_count s r → length (uncoded r ds) ≡ s.block
unfolding coded_count
length-uncoded s None ds h e = e
length-uncoded s (Some v) ds h e = omega arith

count_coded : (s : Parameters) (r : Option ℕ) (ds : List ℕ) → length ds ≡ s.block → length (sent_from r ds) ≡ coded_count s r
unfolding coded_count
count_coded s None ds e = e
count_coded s (Some v) [] e = let n : 0 - 1 ≡ 0 = omega arith in ap (λ m. m - 1) e
count_coded s (Some v) (d ∷ ds) e = omega arith

zero_at_uncoded : (r : Option ℕ) (ds : List ℕ) → IsZeroAtReference (record { reference = r; residuals = uncoded r ds })
zero_at_uncoded None ds = tt
zero_at_uncoded (Some v) ds = refl

fit_uncoded : (m : ℕ) (r : Option ℕ) (ds : List ℕ) → 0 < m → AllByRecursion (λ d. d < m) ds → AllByRecursion (λ d. d < m) (uncoded r ds)
fit_uncoded m None ds h k = k
fit_uncoded m (Some v) ds h k = (h, k)

abbrev block_of : Option ℕ → List ℕ → BlockData
block_of r ds = record { reference = r; residuals = uncoded r ds }

all_units : {X : Type 0} (xs : List X) → AllByRecursion (λ x. Unit {0}) xs
all_units [] = tt
all_units (x ∷ xs) = (tt, all_units xs)

-- no compression
abbrev PlainBody : Parameters → (Option ℕ × List ℕ) → List Bool
PlainBody s p = reference_bits s p.0 ++ flat_map (word s.bits) p.1

abbrev IsUncoded : Parameters → ℕ → (Option ℕ × List ℕ) → Type 0
IsUncoded s b p = IsReference s b p.0 × ((length p.1 ≡ coded_count s p.0) × AllByRecursion (λ v. v < 2 ^ s.bits) p.1)

plain_piece : (s : Parameters) (b : ℕ) (bits : List Bool) → Search (PlainBody s) (IsUncoded s b) bits
plain_piece s b bits =
    two_pieces (reference_bits s) (IsReference s b) (λ r. flat_map (word s.bits)) (λ r xs. (length xs ≡ coded_count s r) × AllByRecursion (λ v. v < 2 ^ s.bits) xs) bits (reference_piece s b bits)
    (reference_reads s b)
    (λ r rest h. search_pieces (word s.bits) (λ v. v < 2 ^ s.bits) (word_piece s.bits) (λ v w x y h k e. (word_reads s.bits v w x y e).1) (coded_count s r) rest)

-- second extension
abbrev SecondBody : Parameters → (Option ℕ × List ℕ) → List Bool
SecondBody s p = reference_bits s p.0 ++ flat_map fundamental_sequence p.1

abbrev IsSecond : Parameters → ℕ → (Option ℕ × List ℕ) → Type 0
IsSecond s b p = IsReference s b p.0 × ((length p.1 ≡ s.block / 2) × AllByRecursion (λ m. Unit {0}) p.1)

second_piece : (s : Parameters) (b : ℕ) (bits : List Bool) → Search (SecondBody s) (IsSecond s b) bits
second_piece s b bits =
    two_pieces (reference_bits s) (IsReference s b) (λ r. flat_map fundamental_sequence) (λ r xs. (length xs ≡ s.block / 2) × AllByRecursion (λ m. Unit {0}) xs) bits (reference_piece s b bits)
    (reference_reads s b)
    (λ r rest h. search_pieces fundamental_sequence (λ m. Unit {0}) sequence_piece (λ v w x y h k e. (sequence_reads v w x y e).1) (s.block / 2) rest)

-- a run
abbrev RunBody : Parameters → (Option ℕ × ℕ) → List Bool
RunBody s p = reference_bits s p.0 ++ fundamental_sequence p.1

abbrev IsRun : Parameters → ℕ → (Option ℕ × ℕ) → Type 0
IsRun s b p = IsReference s b p.0 × Unit {0}

run_piece : (s : Parameters) (b : ℕ) (bits : List Bool) → Search (RunBody s) (IsRun s b) bits
run_piece s b bits =
    two_pieces (reference_bits s) (IsReference s b) (λ r. fundamental_sequence) (λ r m. Unit {0}) bits (reference_piece s b bits)
    (reference_reads s b) (λ r rest h. sequence_piece rest)

-- a split: the high parts, and then the low digits
abbrev Halves : Type 0
Halves = List ℕ × List (List Bool)

abbrev HalvesBody : Halves → List Bool
HalvesBody y = flat_map fundamental_sequence y.0 ++ flat_map (λ (v : List Bool). v) y.1

abbrev AreHalves : ℕ → ℕ → Halves → Type 0
AreHalves k n y = ((length y.0 ≡ n) × AllByRecursion (λ m. Unit {0}) y.0) × ((length y.1 ≡ n) × AllByRecursion (λ v. length v ≡ k) y.1)

halves_piece : (k n : ℕ) (bits : List Bool) → Search HalvesBody (AreHalves k n) bits
halves_piece k n bits =
    two_pieces (flat_map fundamental_sequence) (λ hs. (length hs ≡ n) × AllByRecursion (λ m. Unit {0}) hs) (λ hs. flat_map (λ (v : List Bool). v))
    (λ hs ls. (length ls ≡ n) × AllByRecursion (λ v. length v ≡ k) ls) bits
    (search_pieces fundamental_sequence (λ m. Unit {0}) sequence_piece (λ v w x y h k e. (sequence_reads v w x y e).1) n bits)
    (λ hs gs x y h g e. let p = pieces_read fundamental_sequence (λ u v. u ≡ v) sequence_reads hs gs x y (h.0 ∙ sym g.0) e in (same_all hs gs p.0, p.1))
    (λ hs rest h. search_pieces (λ (v : List Bool). v) (λ v. length v ≡ k) (bits_piece k) (λ v w x y h g e. (bits_read v w x y (h ∙ sym g) e).1) n rest)

abbrev SplitBody : Parameters → (Option ℕ × Halves) → List Bool
SplitBody s p = reference_bits s p.0 ++ HalvesBody p.1

abbrev IsSplit : Parameters → ℕ → ℕ → (Option ℕ × Halves) → Type 0
IsSplit s b k p = IsReference s b p.0 × AreHalves k (coded_count s p.0) p.1

split_piece : (s : Parameters) (b k : ℕ) (bits : List Bool) → Search (SplitBody s) (IsSplit s b k) bits
split_piece s b k bits =
    two_pieces (reference_bits s) (IsReference s b) (λ r. HalvesBody) (λ r. AreHalves k (coded_count s r)) bits (reference_piece s b bits)
    (reference_reads s b) (λ r rest h. halves_piece k (coded_count s r) rest)

-- the numbers of high parts and low digits
joined : List ℕ → List (List Bool) → List ℕ
joined [] ls = []
joined (h ∷ hs) [] = []
joined (h ∷ hs) (l ∷ ls) = followed_by h l ∷ joined hs ls

length-joined : (hs : List ℕ) (ls : List (List Bool)) → length hs ≡ length ls → length (joined hs ls) ≡ length hs
unfolding joined
length-joined [] ls e = refl
length-joined (h ∷ hs) [] e = absurd cc
length-joined (h ∷ hs) (l ∷ ls) e = ap (λ n. suc n) (length-joined hs ls (omega arith))

high_joined : (k : ℕ) (hs : List ℕ) (ls : List (List Bool)) → length hs ≡ length ls → AllByRecursion (λ v. length v ≡ k) ls
    → flat_map (λ d. fundamental_sequence (d / 2 ^ k)) (joined hs ls) ≡ flat_map fundamental_sequence hs
unfolding joined
high_joined k [] ls e h = refl
high_joined k (h ∷ hs) [] e g = absurd cc
high_joined k (h ∷ hs) (l ∷ ls) e g = grind (arith, common_steps, high-followed_by, high_joined k hs ls (omega arith) g.1)

low_joined : (k : ℕ) (hs : List ℕ) (ls : List (List Bool)) → length hs ≡ length ls → AllByRecursion (λ v. length v ≡ k) ls → flat_map (word k) (joined hs ls) ≡ flat_map (λ (v : List Bool). v) ls
unfolding joined
low_joined k [] [] e h = refl
low_joined k (h ∷ hs) (l ∷ ls) e g = grind (arith, common_steps, word-followed_by, low_joined k hs ls (omega arith) g.1)
low_joined k _ _ e h = absurd cc

all_words : (k : ℕ) (ds : List ℕ) → AllByRecursion (λ (v : List Bool). length v ≡ k) (map (word k) ds)
all_words k [] = tt
all_words k (d ∷ ds) = (length-word k d, all_words k ds)

-- what follows the identifier i
abbrev IsTail : Parameters → ℕ → ℕ → CodedDataSet → Type 0
IsTail s b i d = IsForm s b d × (identifier s d ≡ i)

-- from pieces of one kind to forms
pieces_to_forms : {X : Type 0} (s : Parameters) (body : X → List Bool) (P : X → Type 0) (R : CodedDataSet → Type 0) (bits : List Bool)
    → ((x : X) → P x → (d : CodedDataSet) × R d × (body x ≡ tail s d)) →
    ((d : CodedDataSet) → R d → (x : X) × P x × (tail s d ≡ body x)) → Search body P bits → Search (tail s) R bits
pieces_to_forms s body P R bits to from h =
    elim h [
      | inl p ↦ let t = to p.piece p.fits in inl (record { piece = t.0; more = p.more; fits = t.1; begins = p.begins ∙ ap (λ v. v ++ p.more) t.2 })
      | inr miss ↦ inr (λ d more g e. let f = from d g in miss f.0 more f.1 (e ∙ ap (λ v. v ++ more) f.2))
    ]

is_block : (s : Parameters) (b : ℕ) (r : Option ℕ) (ds : List ℕ) → 1 ≤ s.block → IsReference s b r → length ds ≡ coded_count s r → IsBlock s b (block_of r ds)
is_block s b r ds j h e = record { reference = h; len = length-uncoded s r ds j e }

to_plain : (s : Parameters) (b : ℕ) (x : Option ℕ × List ℕ) → 1 ≤ s.block → IsUncoded s b x → (d : CodedDataSet) × IsTail s b (2 ^ id_len s - 1) d × (PlainBody s x ≡ tail s d)
unfolding tail identifier
to_plain s b x j h =
    let c = block_of x.0 x.1 in
    let w = wide_id s in (
      NoCompression c,
      ((is_block s b x.0 x.1 j h.0 h.1.0, zero_at_uncoded x.0 x.1, All-from_recursion (λ d. d < value_count s) c.residuals (fit_uncoded (2 ^ s.bits) x.0 x.1 (pow_pos s.bits) h.1.1)), refl),
      ap (λ v. reference_bits s x.0 ++ flat_map (word s.bits) v) (sym (coded_uncoded x.0 x.1)),
    )

from_plain : (s : Parameters) (b : ℕ) (d : CodedDataSet) → IsTail s b (2 ^ id_len s - 1) d → (x : Option ℕ × List ℕ) × IsUncoded s b x × (tail s d ≡ PlainBody s x)
unfolding tail identifier
from_plain s b (NoCompression c) h = (
  (c.reference, sent_residuals c),
  (
    h.0.0.reference,
    (
      count_coded s c.reference c.residuals h.0.0.len,
      recursion_from_All (λ v. v < 2 ^ s.bits) (sent_residuals c)
          (All-coded (λ v. v < 2 ^ s.bits) c.reference c.residuals h.0.2),
    ),
  ),
  refl,
)
from_plain s b (SecondExtension c) h = let w = wide_id s in absurd (omega (arith, h.1))
from_plain s b (Split k c) h = let w = wide_id s in let le : k ≤ 2 ^ id_len s - 3 = h.0.2 in absurd (omega (arith, h.1))
from_plain s b (ZeroBlocks r z) h = let w = wide_id s in absurd (omega (arith, h.1))
from_plain s b (RemainderOfSegment r) h = let w = wide_id s in absurd (omega (arith, h.1))

to_split : (s : Parameters) (b k : ℕ) (x : Option ℕ × Halves) → 1 ≤ s.block → k ≤ k_max s → IsSplit s b k x → (d : CodedDataSet) × IsTail s b (k + 1) d × (SplitBody s x ≡ tail s d)
unfolding tail identifier
to_split s b k x j le h =
    let hs = x.1.0 in
    let ls = x.1.1 in
    let ds = joined hs ls in
    let lens : length hs ≡ length ls = h.1.0.0 ∙ sym h.1.1.0 in
    let same = sym (coded_uncoded x.0 ds) in
    let high = sym (high_joined k hs ls lens h.1.1.1) ∙ ap (λ v. flat_map (λ d. fundamental_sequence (d / 2 ^ k)) v) same in
    let low = sym (low_joined k hs ls lens h.1.1.1) ∙ ap (λ v. flat_map (word k) v) same in (
      Split k (block_of x.0 ds),
      ((is_block s b x.0 ds j h.0 (length-joined hs ls lens ∙ h.1.0.0), zero_at_uncoded x.0 ds, le), refl),
      (λ i. reference_bits s x.0 ++ (high i ++ low i)),
    )

split_halves : (s : Parameters) (b k : ℕ) (c : BlockData) → IsForm s b (Split k c) → (x : Option ℕ × Halves) × IsSplit s b k x × (tail s (Split k c) ≡ SplitBody s x)
unfolding tail
split_halves s b k c h =
    let ds = sent_residuals c in
    let hs = map (λ d. d / 2 ^ k) ds in
    let ls = map (word k) ds in
    let n = count_coded s c.reference c.residuals h.0.len in
    let high = sym (flat_map-map fundamental_sequence (λ d. d / 2 ^ k) ds) in
    let low = sym (flat_map-map (λ (v : List Bool). v) (word k) ds) in (
      (c.reference, (hs, ls)),
      (h.0.reference, ((length-map ds (λ d. d / 2 ^ k) ∙ n, all_units hs), (length-map ds (word k) ∙ n, all_words k ds))),
      (λ i. reference_bits s c.reference ++ (high i ++ low i)),
    )

from_split : (s : Parameters) (b k : ℕ) (d : CodedDataSet) → k ≤ k_max s → IsTail s b (k + 1) d → (x : Option ℕ × Halves) × IsSplit s b k x × (tail s d ≡ SplitBody s x)
unfolding identifier
from_split s b k (NoCompression c) le h = let w = wide_id s in let l : k ≤ 2 ^ id_len s - 3 = le in absurd (omega (arith, h.1))
from_split s b k (Split n c) le h =
    let e : n ≡ k = omega (arith, h.1) in
    let P : ℕ → Type 0 = λ m. (x : Option ℕ × Halves) × IsSplit s b m x × (tail s (Split n c) ≡ SplitBody s x) in
    subst P e (split_halves s b n c h.0)
from_split s b k _ le h = absurd (omega (arith, h.1))

-- after the identifier 0 a bit tells second extension from runs
to_second : (s : Parameters) (b : ℕ) (bits : List Bool) → IsLegal s → Piece (SecondBody s) (IsSecond s b) bits → Piece (tail s) (IsTail s b 0) (true ∷ bits)
unfolding tail identifier
to_second s b bits legal p =
    let r = p.piece.0 in
    let gs = p.piece.1 in
    let half = even_block s legal in
    let len : length (unpaired gs) ≡ s.block = length-unpaired gs ∙ ((λ i. p.fits.1.0 i + p.fits.1.0 i) ∙ sym half) in
    let same = codes_of_unpaired gs in
    record {
      piece = SecondExtension (record { reference = r; residuals = unpaired gs });
      more = p.more;
      fits = (record { reference = p.fits.0; len = len }, refl);
      begins = ap (λ v. true ∷ v) (p.begins ∙ ap (λ v. (reference_bits s r ++ flat_map fundamental_sequence v) ++ p.more) (sym same));
    }

no_second : (s : Parameters) (b : ℕ) (bits : List Bool) → IsLegal s → NoPiece (SecondBody s) (IsSecond s b) bits → NoPiece (tail s) (IsTail s b 0) (true ∷ bits)
unfolding tail identifier
no_second s b bits legal miss (NoCompression c) more h e = let w = wide_id s in absurd (omega (arith, h.1))
no_second s b bits legal miss (SecondExtension c) more h e =
    let t : bits ≡ (reference_bits s c.reference ++ flat_map fundamental_sequence (pair_codes c.residuals)) ++ more = cc in
    miss (c.reference, pair_codes c.residuals) more (h.0.reference, (count_pairs (s.block / 2) c.residuals (h.0.len ∙ even_block s legal), all_units (pair_codes c.residuals))) t
no_second s b bits legal miss (Split k c) more h e = absurd (omega (arith, h.1))
no_second s b bits legal miss _ more h e = absurd cc

to_run : (s : Parameters) (b : ℕ) (bits : List Bool) → Piece (RunBody s) (IsRun s b) bits → Piece (tail s) (IsTail s b 0) (false ∷ bits)
unfolding tail identifier
to_run s b bits p =
    let r = p.piece.0 in
    let m = p.piece.1 in
    elim (cases_lt m 4) [
      | inl few ↦
          let e : run_number (m + 1) ≡ m = grind (arith, nat_tests) in
          record {
            piece = ZeroBlocks r (m + 1);
            more = p.more;
            fits = ((p.fits.0, omega arith), refl);
            begins = ap (λ v. false ∷ v) (p.begins ∙ ap (λ v. (reference_bits s r ++ fundamental_sequence v) ++ p.more) (sym e));
          }
      | inr many ↦ elim (cases_lt 4 m) [
        | inl more ↦
            let e : run_number m ≡ m = grind (arith, nat_tests) in
            record {
              piece = ZeroBlocks r m;
              more = p.more;
              fits = ((p.fits.0, omega arith), refl);
              begins = ap (λ v. false ∷ v) (p.begins ∙ ap (λ v. (reference_bits s r ++ fundamental_sequence v) ++ p.more) (sym e));
            }
        | inr same ↦
            let e : m ≡ 4 = omega arith in
            record {
              piece = RemainderOfSegment r;
              more = p.more;
              fits = (p.fits.0, refl);
              begins = ap (λ v. false ∷ v) (p.begins ∙ ap (λ v. (reference_bits s r ++ fundamental_sequence v) ++ p.more) e);
            }
      ]
    ]

no_run : (s : Parameters) (b : ℕ) (bits : List Bool) → NoPiece (RunBody s) (IsRun s b) bits → NoPiece (tail s) (IsTail s b 0) (false ∷ bits)
unfolding tail identifier
no_run s b bits miss (NoCompression c) more h e = let w = wide_id s in absurd (omega (arith, h.1))
no_run s b bits miss (SecondExtension c) more h e = absurd cc
no_run s b bits miss (Split k c) more h e = absurd (omega (arith, h.1))
no_run s b bits miss (ZeroBlocks r z) more h e =
    let t : bits ≡ (reference_bits s r ++ fundamental_sequence (run_number z)) ++ more = cc in
    miss (r, run_number z) more (h.0.0, tt) t
no_run s b bits miss (RemainderOfSegment r) more h e =
    let t : bits ≡ (reference_bits s r ++ fundamental_sequence 4) ++ more = cc in
    miss (r, 4) more (h.0, tt) t

no_tail : (s : Parameters) (b : ℕ) → NoPiece (tail s) (IsTail s b 0) []
unfolding tail identifier
no_tail s b (NoCompression c) more h e = let w = wide_id s in absurd (omega (arith, h.1))
no_tail s b (Split k c) more h e = absurd (omega (arith, h.1))
no_tail s b _ more h e = absurd cc

zero_tail : (s : Parameters) (b : ℕ) (bits : List Bool) → IsLegal s → Search (tail s) (IsTail s b 0) bits
zero_tail s b [] legal = inr (no_tail s b)
zero_tail s b (true ∷ bits) legal = elim (second_piece s b bits) [ inl p ↦ inl (to_second s b bits legal p) | inr miss ↦ inr (no_second s b bits legal miss) ]
zero_tail s b (false ∷ bits) legal = elim (run_piece s b bits) [ inl p ↦ inl (to_run s b bits p) | inr miss ↦ inr (no_run s b bits miss) ]

tail_piece : (s : Parameters) (b i : ℕ) (bits : List Bool) → IsLegal s → i < 2 ^ id_len s → Search (tail s) (IsTail s b i) bits
tail_piece s b zero bits legal lt = zero_tail s b bits legal
tail_piece s b (suc k) bits legal lt =
    let j : 1 ≤ s.block = grind (arith, legal.block) in
    let P : ℕ → Type 0 = λ n. Search (tail s) (IsTail s b n) bits in
    elim (cases_lt (suc k) (2 ^ id_len s - 1)) [
      | inl less ↦
          let le : k ≤ k_max s = omega arith in
          let e : k + 1 ≡ suc k = omega arith in
          subst P e (pieces_to_forms s (SplitBody s) (IsSplit s b k) (IsTail s b (k + 1)) bits (λ x h. to_split s b k x j le h) (λ d h. from_split s b k d le h) (split_piece s b k bits))
      | inr whole ↦
          let e : 2 ^ id_len s - 1 ≡ suc k = omega arith in
          subst P e (pieces_to_forms s (PlainBody s) (IsUncoded s b) (IsTail s b (2 ^ id_len s - 1)) bits (λ x h. to_plain s b x j h) (λ d h. from_plain s b d h) (plain_piece s b bits))
    ]

-- bits begin with the text of a coded data set that block b can have, sound or not, or with that of none
pub form_piece : (s : Parameters) (b : ℕ) (bits : List Bool) → IsLegal s → Search (bits_of_set s) (IsForm s b) bits
form_piece s b bits legal =
    elim (word_piece (id_len s) bits) [
      | inr miss ↦ inr (λ d more h e. miss (identifier s d) (tail s d ++ more) (identifier_fits s b d h) (after d more e))
      | inl p ↦ elim (tail_piece s b p.piece p.more legal p.fits) [
        | inl q ↦ grind (arith, common_steps, append_assoc, text_is)
        | inr miss ↦ inr (λ d more h e.
            let a = word_reads (id_len s) p.piece (identifier s d) p.more (tail s d ++ more) (sym p.begins ∙ after d more e) in
            let same = same_below (2 ^ id_len s) p.piece (identifier s d) p.fits (identifier_fits s b d h) a.0 in
            miss d more (h, sym same) a.1)
      ]
    ]
  where
    after : (d : CodedDataSet) (more : List Bool) → bits ≡ bits_of_set s d ++ more → bits ≡ word (id_len s) (identifier s d) ++ (tail s d ++ more)
    after d more e = e ∙ (ap (λ v. v ++ more) (text_is s d) ∙ append_assoc (word (id_len s) (identifier s d)) (tail s d) more)
