-- Coded data sets are read in one way.
use Rattle.std.proofs.Common.{◌≡◌, ◌≢◌, ℕ, suc, ◌+◌, ◌-◌, ◌/◌, ◌%◌, ◌^◌, ◌<◌, ◌≤◌, Bool, true, false, List, [], ◌∷◌, ◌++◌, length, refl, ap, arith, sym, ◌∙◌, append_assoc, Option, Some, None}
use Rattle.rice_code.proofs.Words.{All, flat_map, slice_index, OnSome, AllZip, nat_tests, mod-eq_of_lt, pow_mono, word_reads, sequence_reads, pieces_read, Parameters, IsLegal, id_len, pair_codes}
use Rattle.rice_code.proofs.Words.{same_pairs, length-pair_codes, word, fundamental_sequence, BlockData, CodedDataSet, NoCompression, SecondExtension, Split, ZeroBlocks, RemainderOfSegment}
use Rattle.rice_code.proofs.Words.{bits_of_set, sent_residuals, sent_from, reference_bits, run_number, IsForm, IsBlock, IsReference, IsZeroAtReference, common_steps}

-- numbers below a limit that are alike modulo it are the same
pub same_below : (m a b : ℕ) → a < m → b < m → a % m ≡ b % m → a ≡ b
same_below m a b h k e = sym (mod-eq_of_lt h) ∙ (e ∙ mod-eq_of_lt k)

-- lists of such numbers too
pub same_all_below : (m : ℕ) (xs ys : List ℕ) → All (λ d. d < m) xs → All (λ d. d < m) ys → AllZip (λ a b. a % m ≡ b % m) xs ys → xs ≡ ys
same_all_below m [] [] h k e = refl
same_all_below m (x ∷ xs) (y ∷ ys) h k e =
    let first = same_below m x y (h 0 0 (omega arith)) (k 0 0 (omega arith)) e.0 in
    let rest = same_all_below m xs ys (λ i d lt. h (suc i) d (omega arith)) (λ i d lt. k (suc i) d (omega arith)) e.1 in
    cc
same_all_below m _ _ h k e = absurd e

-- numbers of a list are their high and their low parts
pub same_all_parts : (m : ℕ) (xs ys : List ℕ) → AllZip (λ a b. a / m ≡ b / m) xs ys → AllZip (λ a b. a % m ≡ b % m) xs ys → xs ≡ ys
same_all_parts m [] [] e f = refl
same_all_parts m (x ∷ xs) (y ∷ ys) e f = grind (arith, common_steps, same_all_parts m xs ys e.1 f.1)
same_all_parts m _ _ e f = absurd e

-- lists that are alike at each place are the same
pub same_all : {X : Type 0} (xs ys : List X) → AllZip (λ a b. a ≡ b) xs ys → xs ≡ ys
same_all [] [] e = refl
same_all (x ∷ xs) (y ∷ ys) e = λ i. e.0 i ∷ same_all xs ys e.1 i
same_all _ _ e = absurd e

-- what follows a word, where the words are alike
pub after_word : (w a b : ℕ) (t u x y : List Bool) → (word w a ++ t) ++ x ≡ (word w b ++ u) ++ y → (a % 2 ^ w ≡ b % 2 ^ w) × (t ++ x ≡ u ++ y)
after_word w a b t u x y e = word_reads w a b (t ++ x) (u ++ y) (sym (append_assoc (word w a) t x) ∙ (e ∙ append_assoc (word w b) u y))

-- and what follows a reference, where the references are those of one block
pub reference_reads : (s : Parameters) (b : ℕ) (r q : Option ℕ) (x y : List Bool) → IsReference s b r → IsReference s b q → reference_bits s r ++ x ≡ reference_bits s q ++ y → (r ≡ q) × (x ≡ y)
reference_reads s b None None x y h k e = (refl, e)
reference_reads s b None (Some w) x y h k e = absurd (let f : false ≡ true = h.there ∙ sym k.there in cc)
reference_reads s b (Some v) None x y h k e = absurd (let f : true ≡ false = h.there ∙ sym k.there in cc)
reference_reads s b (Some v) (Some w) x y h k e = let a = word_reads s.bits v w x y e in (ap (λ n. Some n) (same_below (2 ^ s.bits) v w h.fits k.fits a.0), a.1)

-- what follows a reference
pub after_reference : {s : Parameters} {b : ℕ} (r q : Option ℕ) → IsReference s b r → IsReference s b q → (t u x y : List Bool) →
    (reference_bits s r ++ t) ++ x ≡ (reference_bits s q ++ u) ++ y → (r ≡ q) × (t ++ x ≡ u ++ y)
after_reference {s} {b} r q h k t u x y e = reference_reads s b r q (t ++ x) (u ++ y) h k (sym (append_assoc (reference_bits s r) t x) ∙ (e ∙ append_assoc (reference_bits s q) u y))

-- the identifier of a coded data set
unfoldable pub identifier : Parameters → CodedDataSet → ℕ
identifier s (NoCompression c) = 2 ^ id_len s - 1
identifier s (SecondExtension c) = 0
identifier s (Split k c) = k + 1
identifier s (ZeroBlocks r z) = 0
identifier s (RemainderOfSegment r) = 0

-- an identifier has three bits at least
pub long_id : (s : Parameters) → 3 ≤ id_len s
long_id s = grind (arith, nat_tests)

-- so there are eight identifiers at least
pub wide_id : (s : Parameters) → 8 ≤ 2 ^ id_len s
wide_id s = pow_mono (long_id s)

-- what follows the identifier
unfoldable pub tail : Parameters → CodedDataSet → List Bool
tail s (NoCompression c) = reference_bits s c.reference ++ flat_map (word s.bits) (sent_residuals c)
tail s (SecondExtension c) = true ∷ (reference_bits s c.reference ++ flat_map fundamental_sequence (pair_codes c.residuals))
tail s (Split k c) = reference_bits s c.reference ++ (flat_map (λ d. fundamental_sequence (d / 2 ^ k)) (sent_residuals c) ++ flat_map (word k) (sent_residuals c))
tail s (ZeroBlocks r z) = false ∷ (reference_bits s r ++ fundamental_sequence (run_number z))
tail s (RemainderOfSegment r) = false ∷ (reference_bits s r ++ fundamental_sequence 4)

-- a text is its identifier, and what follows it
pub text_is : (s : Parameters) (d : CodedDataSet) → bits_of_set s d ≡ word (id_len s) (identifier s d) ++ tail s d
unfolding tail identifier
text_is s (NoCompression c) = refl
text_is s (SecondExtension c) = refl
text_is s (Split k c) = refl
text_is s (ZeroBlocks r z) = refl
text_is s (RemainderOfSegment r) = refl

-- the identifier of a form fits its bits
pub identifier_fits : (s : Parameters) (b : ℕ) (d : CodedDataSet) → IsForm s b d → identifier s d < 2 ^ id_len s
unfolding identifier
identifier_fits s b (NoCompression c) h = let w = wide_id s in omega arith
identifier_fits s b (SecondExtension c) h = let w = wide_id s in omega arith
identifier_fits s b (Split k c) h = let w = wide_id s in let le : k ≤ 2 ^ id_len s - 3 = h.2 in omega arith
identifier_fits s b (ZeroBlocks r z) h = let w = wide_id s in omega arith
identifier_fits s b (RemainderOfSegment r) h = let w = wide_id s in omega arith

-- two texts on one list have one identifier, and then one rest
same_identifiers : (s : Parameters) (b : ℕ) (d e : CodedDataSet) (x y : List Bool) → IsForm s b d → IsForm s b e → bits_of_set s d ++ x ≡ bits_of_set s e ++ y →
    (identifier s d ≡ identifier s e) × (tail s d ++ x ≡ tail s e ++ y)
same_identifiers s b d e x y hd he eq =
    let a = after_word (id_len s) (identifier s d) (identifier s e) (tail s d) (tail s e) x y
    (ap (λ t. t ++ x) (sym (text_is s d)) ∙ (eq ∙ ap (λ t. t ++ y) (text_is s e))) in
    (same_below (2 ^ id_len s) _ _ (identifier_fits s b d hd) (identifier_fits s b e he) a.0, a.1)

length-coded : (r : Option ℕ) (ds es : List ℕ) → length ds ≡ length es → length (sent_from r ds) ≡ length (sent_from r es)
length-coded None ds es n = n
length-coded (Some v) [] [] n = refl
length-coded (Some v) (d ∷ ds) (e ∷ es) n = omega arith
length-coded (Some v) _ _ n = absurd cc

-- what holds of all residuals holds of those that are sent beside the reference
pub All-coded : (P : ℕ → Type 0) (r : Option ℕ) (ds : List ℕ) → All P ds → All P (sent_from r ds)
All-coded P None ds h = h
All-coded P (Some v) [] h = h
All-coded P (Some v) (d ∷ ds) h = λ i e lt. h (suc i) e (omega arith)

same_residuals : (r : Option ℕ) (ds es : List ℕ) → length ds ≡ length es → OnSome r (slice_index ds 0 ≡ 0) → OnSome r (slice_index es 0 ≡ 0) → sent_from r ds ≡ sent_from r es → ds ≡ es
same_residuals None ds es n h k e = e
same_residuals (Some v) [] [] n h k e = refl
same_residuals (Some v) (d ∷ ds) (f ∷ es) n h k e = cc
same_residuals (Some v) _ _ n h k e = absurd cc

-- contents with one reference and the same coded residuals are the same
same_contents : (c e : BlockData) → c.reference ≡ e.reference → length c.residuals ≡ length e.residuals → IsZeroAtReference c → IsZeroAtReference e → sent_residuals c ≡ sent_residuals e → c ≡ e
same_contents c e r n h k eq = grind (arith, common_steps, same_residuals)

same_len : (s : Parameters) (b : ℕ) (c e : BlockData) → IsBlock s b c → IsBlock s b e → length c.residuals ≡ length e.residuals
same_len s b c e h k = h.len ∙ sym k.len

coded_len : (s : Parameters) (b : ℕ) (c e : BlockData) → IsBlock s b c → IsBlock s b e → c.reference ≡ e.reference → length (sent_residuals c) ≡ length (sent_residuals e)
coded_len s b c e h k r = length-coded c.reference c.residuals e.residuals (same_len s b c e h k) ∙ ap (λ o. length (sent_from o e.residuals)) r

plain_reads : (s : Parameters) (b : ℕ) (c e : BlockData) (x y : List Bool) → IsForm s b (NoCompression c) → IsForm s b (NoCompression e) →
    tail s (NoCompression c) ++ x ≡ tail s (NoCompression e) ++ y → (c ≡ e) × (x ≡ y)
unfolding tail
plain_reads s b c e x y h k eq =
    let a = after_reference c.reference e.reference h.0.reference k.0.reference (flat_map (word s.bits) (sent_residuals c)) (flat_map (word s.bits) (sent_residuals e)) x y eq in
    let p = pieces_read (word s.bits) (λ u v. u % 2 ^ s.bits ≡ v % 2 ^ s.bits) (word_reads s.bits) (sent_residuals c) (sent_residuals e) x y (coded_len s b c e h.0 k.0 a.0) a.1 in
    let same = same_all_below (2 ^ s.bits) (sent_residuals c) (sent_residuals e) (All-coded (λ d. d < 2 ^ s.bits) c.reference c.residuals h.2)
    (All-coded (λ d. d < 2 ^ s.bits) e.reference e.residuals k.2) p.0 in
    (same_contents c e a.0 (same_len s b c e h.0 k.0) h.1 k.1 same, p.1)

-- a block of legal size is two halves of as many samples
pub even_block : (s : Parameters) → IsLegal s → s.block ≡ s.block / 2 + s.block / 2
even_block s h = grind (arith, h.block)

second_reads : {s : Parameters} (b : ℕ) (c e : BlockData) (x y : List Bool) → IsLegal s → IsForm s b (SecondExtension c) → IsForm s b (SecondExtension e) →
    tail s (SecondExtension c) ++ x ≡ tail s (SecondExtension e) ++ y → (c ≡ e) × (x ≡ y)
unfolding tail
second_reads {s} b c e x y legal h k eq =
    let eq' : (reference_bits s c.reference ++ flat_map fundamental_sequence (pair_codes c.residuals)) ++ x
    ≡ (reference_bits s e.reference ++ flat_map fundamental_sequence (pair_codes e.residuals)) ++ y = cc in
    let a = after_reference c.reference e.reference h.reference k.reference (flat_map fundamental_sequence (pair_codes c.residuals))
    (flat_map fundamental_sequence (pair_codes e.residuals)) x y eq' in
    let p = pieces_read fundamental_sequence (λ u v. u ≡ v) sequence_reads (pair_codes c.residuals) (pair_codes e.residuals) x y
    (length-pair_codes c.residuals e.residuals (same_len s b c e h k)) a.1 in
    let half = even_block s legal in
    let g = same_pairs (s.block / 2) c.residuals e.residuals (h.len ∙ half) (k.len ∙ half) (same_all (pair_codes c.residuals) (pair_codes e.residuals) p.0) in
    grind (arith, common_steps)

split_reads : (s : Parameters) (b k : ℕ) {c e : BlockData} (x y : List Bool) → IsForm s b (Split k c) → IsForm s b (Split k e) →
    tail s (Split k c) ++ x ≡ tail s (Split k e) ++ y → (c ≡ e) × (x ≡ y)
unfolding tail
split_reads s b k {c} {e} x y h g eq =
    let high = λ (ds : List ℕ). flat_map (λ d. fundamental_sequence (d / 2 ^ k)) ds in
    let low = λ (ds : List ℕ). flat_map (word k) ds in
    let a = after_reference c.reference e.reference h.0.reference g.0.reference (high (sent_residuals c) ++ low (sent_residuals c)) (high (sent_residuals e) ++ low (sent_residuals e)) x y eq in
    let n = coded_len s b c e h.0 g.0 a.0 in
    let p = pieces_read (λ d. fundamental_sequence (d / 2 ^ k)) (λ u v. u / 2 ^ k ≡ v / 2 ^ k) (λ u v. sequence_reads (u / 2 ^ k) (v / 2 ^ k))
    (sent_residuals c) (sent_residuals e) (low (sent_residuals c) ++ x) (low (sent_residuals e) ++ y) n
    (sym (append_assoc (high (sent_residuals c)) (low (sent_residuals c)) x) ∙ (a.1 ∙ append_assoc (high (sent_residuals e)) (low (sent_residuals e)) y)) in
    let q = pieces_read (word k) (λ u v. u % 2 ^ k ≡ v % 2 ^ k) (word_reads k) (sent_residuals c) (sent_residuals e) x y n p.1 in
    (same_contents c e a.0 (same_len s b c e h.0 g.0) h.1 g.1 (same_all_parts (2 ^ k) (sent_residuals c) (sent_residuals e) p.0 q.0), q.1)

run_reads : {s : Parameters} {b : ℕ} {r q : Option ℕ} (m n : ℕ) (x y : List Bool) → IsReference s b r → IsReference s b q →
    (false ∷ (reference_bits s r ++ fundamental_sequence m)) ++ x ≡ (false ∷ (reference_bits s q ++ fundamental_sequence n)) ++ y → (r ≡ q) × (m ≡ n) × (x ≡ y)
run_reads {s} {b} {r} {q} m n x y h k eq =
    let eq' : (reference_bits s r ++ fundamental_sequence m) ++ x ≡ (reference_bits s q ++ fundamental_sequence n) ++ y = cc in
    let a = after_reference r q h k (fundamental_sequence m) (fundamental_sequence n) x y eq' in
    let p = sequence_reads m n x y a.1 in
    (a.0, p.0, p.1)

same_run : (z w : ℕ) → 1 ≤ z → 1 ≤ w → run_number z ≡ run_number w → z ≡ w
same_run z w h k e = grind (arith, nat_tests)

not_remainder : (z : ℕ) → 1 ≤ z → run_number z ≢ 4
not_remainder z h e = absurd (grind (arith, nat_tests))

-- coded data sets with one identifier
by_tails : {s : Parameters} (b : ℕ) (d e : CodedDataSet) {x y : List Bool} → IsLegal s → IsForm s b d → IsForm s b e →
    identifier s d ≡ identifier s e → tail s d ++ x ≡ tail s e ++ y → (d ≡ e) × (x ≡ y)
unfolding tail identifier
by_tails {s} b (NoCompression c) (NoCompression e) {x} {y} legal h k i t = let p = plain_reads s b c e x y h k t in (ap (λ c. NoCompression c) p.0, p.1)
by_tails {s} b (SecondExtension c) (SecondExtension e) {x} {y} legal h k i t = let p = second_reads b c e x y legal h k t in (ap (λ c. SecondExtension c) p.0, p.1)
by_tails {s} b (Split m c) (Split n e) {x} {y} legal h k i t = grind (arith, common_steps, split_reads)
by_tails {s} b (ZeroBlocks r z) (ZeroBlocks q w) {x} {y} legal h k i t = grind (arith, common_steps, run_reads, same_run)
by_tails {s} b (RemainderOfSegment r) (RemainderOfSegment q) {x} {y} legal h k i t =
    let p = run_reads 4 4 x y h k t in (ap (λ r. RemainderOfSegment r) p.0, p.2)
by_tails {s} b (ZeroBlocks r z) (RemainderOfSegment q) {x} {y} legal h k i t =
    absurd (not_remainder z h.1 (run_reads (run_number z) 4 x y h.0 k t).1)
by_tails {s} b (RemainderOfSegment q) (ZeroBlocks r z) {x} {y} legal h k i t =
    absurd (not_remainder z k.1 (sym (run_reads 4 (run_number z) x y h k.0 t).1))
by_tails {s} b (NoCompression c) (Split n e) legal h k i t = let w = wide_id s in let le : n ≤ 2 ^ id_len s - 3 = k.2 in absurd (omega arith)
by_tails {s} b (Split n c) (NoCompression e) legal h k i t = let w = wide_id s in let le : n ≤ 2 ^ id_len s - 3 = h.2 in absurd (omega arith)
by_tails {s} b (NoCompression c) _ legal h k i t = let w = wide_id s in absurd (omega arith)
by_tails {s} b _ (NoCompression e) legal h k i t = let w = wide_id s in absurd (omega arith)
by_tails b (Split n c) _ legal h k i t = absurd (omega arith)
by_tails b _ (Split n e) legal h k i t = absurd (omega arith)
by_tails b _ _ legal h k i t = absurd cc

-- no form begins another
pub forms_read_in_one_way : {s : Parameters} (b : ℕ) (d e : CodedDataSet) (x y : List Bool) → IsLegal s → IsForm s b d → IsForm s b e →
    bits_of_set s d ++ x ≡ bits_of_set s e ++ y → (d ≡ e) × (x ≡ y)
forms_read_in_one_way {s} b d e x y legal hd he eq =
    let a = same_identifiers s b d e x y hd he eq in
    by_tails b d e legal hd he a.0 a.1

-- an identifier and what follows it
pub head_reads : (s : Parameters) (b id : ℕ) (d : CodedDataSet) (bits more : List Bool) → id < 2 ^ id_len s → IsForm s b d → word (id_len s) id ++ bits ≡ bits_of_set s d ++ more →
    (id ≡ identifier s d) × (bits ≡ tail s d ++ more)
head_reads s b id d bits more lt form e =
    let a = word_reads (id_len s) id (identifier s d) bits (tail s d ++ more)
    (e ∙ (ap (λ t. t ++ more) (text_is s d) ∙ append_assoc (word (id_len s) (identifier s d)) (tail s d) more)) in
    (same_below (2 ^ id_len s) _ _ lt (identifier_fits s b d form) a.0, a.1)
