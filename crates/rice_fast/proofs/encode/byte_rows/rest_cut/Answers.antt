use Rattle.rice_fast.proofs.Words.{◌≡◌, ℕ, ◌-◌, ◌/◌, ◌^◌, ◌++◌, ◌∙◌, ap, arith, drop, length, length-append, map, replicate, take, drop-replicate, length-replicate, map-append, take_all}
use Rattle.rice_fast.proofs.lemmas.encode.Stops.{zeros_cut}
use Rattle.rice_fast.proofs.encode.byte_rows.rest_cut.Goals as goal

pub returns-clause-value : goal.returns-clause-value
returns-clause-value c =
    let f = λ (d : ℕ). d / 2 ^ c.args.k in
    let xs = c.args.items.now in
    let n = length xs in
    let row : c.sixteen_cut.result ≡ map f (take 16 (c.copy_from_slice.new.self ++ drop n (replicate 16 0))) = c.sixteen_cut.ensures.value in
    let whole : take 16 (c.copy_from_slice.new.self ++ drop n (replicate 16 0)) ≡ xs ++ replicate (16 - n) 0 =
    (λ i. take 16 (c.copy_from_slice.ensures.after i ++ drop-replicate n 16 0 i))
    ∙ take_all 16 (xs ++ replicate (16 - n) 0) (omega (arith, length-append xs (replicate {A = ℕ} (16 - n) 0), length-replicate {A = ℕ} (16 - n) 0, c.requires.few)) in
    row ∙ (ap (map f) whole ∙ (map-append f xs (replicate (16 - n) 0) ∙ ap (λ zs. map f xs ++ zs) (zeros_cut c.args.k (16 - n))))
