-- What the typed getters read of an entry.
use Rattle.std.proofs.Common.{◌≡◌, ◌&&◌, ℕ, ◌^◌, ◌<◌, Bool, true, false, List, [], ◌∷◌, length, Option, Some, None, refl}
use Rattle.std.specs.Prelude.{Result, Ok, Err, nat_lt}
use Rattle.std.specs.List.{list_all}
use Rattle.std.specs.Option.{option_and_then}
use Rattle.std.specs.Char.{digit_value}
use Rattle.std.specs.Str.Parse.{AllDigits, IsNumeral, ParsesUnsigned, digits_value, without_leading_plus}
use Rattle.std.proofs.lemmas.Bool.{ltb-true, lt-ltb}
use Rattle.clap.specs.Words.{ReadsOne}
use Rattle.aec_command.specs.Plan.{number_below}

-- the tests of digits and numbers agree with the facts
digits_of_test : (ds : List ℕ) → list_all (λ c. nat_lt (digit_value c) 10) ds ≡ true → AllDigits 10 ds
digits_of_test [] h = tt
digits_of_test (c ∷ cs) h = go (digits_of_test cs) (nat_lt (digit_value c) 10) refl h
  where
    go : (list_all (λ c. nat_lt (digit_value c) 10) cs ≡ true → AllDigits 10 cs)
        → (b : Bool) → nat_lt (digit_value c) 10 ≡ b
        → (b && list_all (λ c. nat_lt (digit_value c) 10) cs) ≡ true
        → (digit_value c < 10) × AllDigits 10 cs
    go more true e rest = (ltb-true (digit_value c) 10 e, more rest)
    go more false e rest = let bad : false ≡ true = rest in cc

-- text of digits passes the parser's test for digits
test_of_digits : (ds : List ℕ) → AllDigits 10 ds → list_all (λ c. nat_lt (digit_value c) 10) ds ≡ true
test_of_digits [] h = refl
test_of_digits (c ∷ cs) h = rw (lt-ltb (digit_value c) 10 h.0) (test_of_digits cs h.1)

-- a numeral passes its test for numbers
test_of_number : (limit : ℕ) (text : List ℕ) → IsNumeral 10 (without_leading_plus text)
    → digits_value 10 (without_leading_plus text) < limit
    → number_below limit text ≡ Some (digits_value 10 (without_leading_plus text))
test_of_number limit text numeral small =
    rw (
      lt-ltb 0 (length (without_leading_plus text)) numeral.0,
      test_of_digits (without_leading_plus text) numeral.1,
      lt-ltb (digits_value 10 (without_leading_plus text)) limit small,
    ) refl

-- and what is none does not
no_number : (limit : ℕ) (text : List ℕ)
    → (IsNumeral 10 (without_leading_plus text) × (digits_value 10 (without_leading_plus text) < limit) → ⊥)
    → number_below limit text ≡ None
no_number limit text refused = go (nat_lt 0 (length ds)) refl (list_all (λ c. nat_lt (digit_value c) 10) ds) refl (nat_lt (digits_value 10 ds) limit) refl
  where
    ds : List ℕ
    ds = without_leading_plus text

    go : (a : Bool) → nat_lt 0 (length ds) ≡ a → (b : Bool) → list_all (λ c. nat_lt (digit_value c) 10) ds ≡ b
        → (c : Bool) → nat_lt (digits_value 10 ds) limit ≡ c → number_below limit text ≡ None
    go true ea true eb true ec =
        absurd (refused ((ltb-true 0 (length ds) ea, digits_of_test ds eb), ltb-true (digits_value 10 ds) limit ec))
    go true ea true eb false ec = rw (ea, eb, ec) refl
    go true ea false eb c ec = rw (ea, eb) refl
    go false ea b eb c ec = rw ea refl

-- the typed getter of an unsigned type of k bits gives the readable number
pub reads_number : (E : Type 0) (G : List ℕ → Result ℕ E → Type 0) (k : ℕ) (o : Option (List ℕ)) (r : Option ℕ)
    → ((u : List ℕ) (x : Result ℕ E) → G u x → ParsesUnsigned k 10 u x)
    → (o ≡ None → r ≡ None) → ((t : List ℕ) → o ≡ Some t → ReadsOne G t r)
    → r ≡ option_and_then (number_below (2 ^ k)) o
reads_number E G k None r only none some = none refl
reads_number E G k (Some t) (Some v) only none some =
    let read = only t (Ok v) (some t refl) in
    rw (test_of_number (2 ^ k) t read.0.0 read.0.1, read.1) refl
reads_number E G k (Some t) None only none some =
    let read = some t refl in
    rw (no_number (2 ^ k) t (only t (Err read.0) read.1)) refl
