-- Bits begin with a piece of a kind, or with none.
use Rattle.std.proofs.lemmas.Grind.{common_steps}
use Rattle.std.proofs.Common.{◌≡◌, ℕ, zero, suc, ◌^◌, ◌<◌, ◌⊎◌, inl, inr, Bool, true, false, List, [], ◌∷◌, ◌++◌, length, take, drop, refl, ap, arith, sym, ◌∙◌, subst, append_assoc, length-append}
use Rattle.std.{proofs.lemmas.List.length-take-le, proofs.lemmas.List.take-append-drop, proofs.lemmas.Bool.cases_lt, specs.List.AllByRecursion, specs.Prelude.flat_map}
use Rattle.rice_bits.proofs.lemmas.bits.WordsAndNumbers.{length-word, length-fundamental_sequence, number_of-lt, word-number_of}
use Rattle.rice_bits.specs.Bits.{word, number_of, fundamental_sequence}

-- a piece at the front, of which P holds
pub record Piece {X : Type 0} (f : X → List Bool) (P : X → Type 0) (bits : List Bool) : Type 0 where
  pub piece : X
  pub more : List Bool
  pub fits : P piece
  pub begins : bits ≡ f piece ++ more

abbrev pub NoPiece : {X : Type 0} → (X → List Bool) → (X → Type 0) → List Bool → Type 0
NoPiece {X = X} f P bits = (x : X) (more : List Bool) → P x → bits ≡ f x ++ more → ⊥

abbrev pub Search : {X : Type 0} → (X → List Bool) → (X → Type 0) → List Bool → Type 0
Search f P bits = Piece f P bits ⊎ NoPiece f P bits

-- bits begin with a word where they are as many
pub word_piece : (w : ℕ) (bits : List Bool) → Search (word w) (λ v. v < 2 ^ w) bits
word_piece w bits =
    elim (cases_lt (length bits) w) [
      | inl short ↦ inr (λ v more h e. let l = ap length e ∙ length-append (word w v) more in let k = length-word w v in omega arith)
      | inr long ↦
          let front = take w bits in
          let len : length front ≡ w = length-take-le w bits long in
          let P : ℕ → Type 0 = λ m. number_of front < 2 ^ m in
          let same : word w (number_of front) ≡ front = ap (λ m. word m (number_of front)) (sym len) ∙ word-number_of front in
          inl (record { piece = number_of front; more = drop w bits; fits = subst P len (number_of-lt front); begins = sym (take-append-drop w bits) ∙ ap (λ v. v ++ drop w bits) (sym same) })
    ]

-- so many bits
pub bits_piece : (w : ℕ) (bits : List Bool) → Search (λ (v : List Bool). v) (λ v. length v ≡ w) bits
bits_piece w bits =
    elim (cases_lt (length bits) w) [
      | inl short ↦ inr (λ v more h e. let l = ap length e ∙ length-append v more in omega arith)
      | inr long ↦ inl (record { piece = take w bits; more = drop w bits; fits = length-take-le w bits long; begins = sym (take-append-drop w bits) })
    ]

-- bits begin with a fundamental sequence where there is a 1 among them
pub sequence_piece : (bits : List Bool) → Search fundamental_sequence (λ m. Unit {0}) bits
sequence_piece [] = inr (λ m more h e. let l : 0 ≡ length (fundamental_sequence m ++ more) = ap length e in
    let k = length-append (fundamental_sequence m) more in let n = length-fundamental_sequence m in omega arith)
sequence_piece (true ∷ xs) = inl (record { piece = 0; more = xs; fits = tt; begins = refl })
sequence_piece (false ∷ xs) =
    elim (sequence_piece xs) [
      | inl p ↦ inl (record { piece = suc p.piece; more = p.more; fits = tt; begins = ap (λ v. false ∷ v) p.begins })
      | inr miss ↦ inr (none xs miss)
    ]
  where
    none : (xs : List Bool) → NoPiece fundamental_sequence (λ m. Unit {0}) xs → NoPiece fundamental_sequence (λ m. Unit {0}) (false ∷ xs)
    none xs miss zero more h e = absurd cc
    none xs miss (suc m) more h e = let t : xs ≡ fundamental_sequence m ++ more = cc in miss m more tt t

-- so many pieces of a kind
pub search_pieces : {X : Type 0} (f : X → List Bool) (P : X → Type 0) → ((bits : List Bool) → Search f P bits) → ((x y : X) (a b : List Bool) → P x → P y → f x ++ a ≡ f y ++ b → a ≡ b) →
    (n : ℕ) (bits : List Bool) → Search (flat_map f) (λ xs. (length xs ≡ n) × AllByRecursion P xs) bits
search_pieces f P one tells zero bits = inl (record { piece = []; more = bits; fits = (refl, tt); begins = refl })
search_pieces {X = X} f P one tells (suc n) bits =
    elim (one bits) [
      | inr miss ↦ inr (none_first miss)
      | inl p ↦ elim (search_pieces f P one tells n p.more) [
        | inl q ↦ inl (record {
          piece = p.piece ∷ q.piece;
          more = q.more;
          fits = (ap (λ m. suc m) q.fits.0, (p.fits, q.fits.1));
          begins = p.begins ∙ (ap (λ v. f p.piece ++ v) q.begins ∙ sym (append_assoc (f p.piece) (flat_map f q.piece) q.more));
        })
        | inr miss ↦ inr (none_later p miss)
      ]
    ]
  where
    none_first : NoPiece f P bits → NoPiece (flat_map f) (λ xs. (length xs ≡ suc n) × AllByRecursion P xs) bits
    none_first miss [] more h e = absurd (omega (arith, h.0))
    none_first miss (x ∷ xs) more h e = miss x (flat_map f xs ++ more) h.1.0 (e ∙ append_assoc (f x) (flat_map f xs) more)

    none_later : (p : Piece f P bits) → NoPiece (flat_map f) (λ xs. (length xs ≡ n) × AllByRecursion P xs) p.more → NoPiece (flat_map f) (λ xs. (length xs ≡ suc n) × AllByRecursion P xs) bits
    none_later p miss [] more h e = absurd (omega (arith, h.0))
    none_later p miss (x ∷ xs) more h e =
        let rest = tells p.piece x p.more (flat_map f xs ++ more) p.fits h.1.0 (sym p.begins ∙ (e ∙ append_assoc (f x) (flat_map f xs) more)) in
        miss xs more (omega (arith, h.0), h.1.1) rest

-- a piece and one after it
pub two_pieces : {X Y : Type 0} (f : X → List Bool) (P : X → Type 0) (g : X → Y → List Bool) (Q : X → Y → Type 0) (bits : List Bool) → Search f P bits →
    ((x y : X) (a b : List Bool) → P x → P y → f x ++ a ≡ f y ++ b → (x ≡ y) × (a ≡ b)) → ((x : X) (rest : List Bool) → P x → Search (g x) (Q x) rest) →
    Search (λ (p : X × Y). f p.0 ++ g p.0 p.1) (λ p. P p.0 × Q p.0 p.1) bits
two_pieces {X = X} {Y = Y} f P g Q bits one tells next =
    elim one [
      | inr miss ↦ inr (λ p more h e. miss p.0 (g p.0 p.1 ++ more) h.0 (e ∙ append_assoc (f p.0) (g p.0 p.1) more))
      | inl p ↦ elim (next p.piece p.more p.fits) [
        | inl q ↦ inl (record {
          piece = (p.piece, q.piece);
          more = q.more;
          fits = (p.fits, q.fits);
          begins = p.begins ∙ (ap (λ v. f p.piece ++ v) q.begins ∙ sym (append_assoc (f p.piece) (g p.piece q.piece) q.more));
        })
        | inr miss ↦ grind (arith, common_steps, append_assoc)
      ]
    ]
