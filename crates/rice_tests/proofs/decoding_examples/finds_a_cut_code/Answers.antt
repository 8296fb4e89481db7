use Rattle.std.proofs.Common.{◌≡◌, ◌∷◌, [], ◌++◌, Bool, List, length, replicate, true, false, Some, None, refl, lit<, lit≤, ap, arith, sym, ◌∙◌, append_assoc, length-append}
use Rattle.rice_code.proofs.Words.{flat_map, range_with_len, IsLegal, word, bits_of, BlockData, CodedDataSet, Split, bits_of_set, CutOff, IsForm}
use Rattle.rice_code.proofs.lemmas.{meaning.DecodingWitnesses.decoded_by_none, code.FormsReadInOneWay.forms_read_in_one_way}
use Rattle.rice_base_tests.specs.Examples.{defaults}
use Rattle.rice_tests.proofs.decoding_examples.finds_a_cut_code.Goals as goal

abbrev block : BlockData
block = record { reference = Some 0; residuals = 0 ∷ 1 ∷ replicate 6 2 }

legal : IsLegal defaults
legal = record { bits_from = lit≤ tt; bits_to = lit≤ tt; block = (lit≤ tt, lit≤ tt, refl); interval_from = lit≤ tt; interval_to = lit≤ tt }

-- what is missing of the coded data set
missing : List Bool
missing = flat_map (λ _. false ∷ false ∷ true ∷ []) (range_with_len 0 5)

-- a form that began the bits would begin that coded data set too, and be it
no_form : (d : CodedDataSet) (more : List Bool) → IsForm defaults 0 d → bits_of (0x20 ∷ 0x09 ∷ []) ≡ bits_of_set defaults d ++ more → ⊥
unfolding word bits_of missing
no_form d more h e =
    let whole : bits_of_set defaults d ++ (more ++ missing) ≡ bits_of_set defaults (Split 0 block) ++ [] = sym (append_assoc (bits_of_set defaults d) more missing) ∙ ap (λ v. v ++ missing) (sym e) in
    let same = forms_read_in_one_way 0 d (Split 0 block) (more ++ missing) [] legal h (record { reference = record { there = refl; fits = lit< tt }; len = refl }, refl, lit≤ tt) whole in
    let none = ap length same.1 in
    let some = length-append more missing in
    omega arith

pub returns : goal.returns
unfolding word bits_of
returns c = decoded_by_none defaults (bits_of (0x20 ∷ 0x09 ∷ [])) None CutOff 16 (tt, (2, lit< tt, refl), no_form, refl)
