use Rattle.rice_fast.proofs.Words.{ℕ, ◌≡◌, ◌+◌, ◌-◌, ◌*◌, ◌/◌, ◌^◌, ◌++◌, ◌∙◌, arith, ap, length, map, replicate, take, sym, drop, append-nil, length-drop, length-take-le}
use Rattle.rice_fast.proofs.lemmas.encode.HighParts.{high_all, high_more}
use Rattle.rice_fast.proofs.encode.high_parts.high_parts.Goals as goal

pub loop-i-preserved : goal.loop-i-preserved
loop-i-preserved c =
    let l = c.loop-i in
    let f = λ (d : ℕ). d / 2 ^ c.args.k in
    let next : 16 * l.i + 16 ≡ 16 * (l.i + 1) = omega arith in
    let row = c.sixteen_cut.ensures.value ∙ sym (append-nil (map f (take 16 (drop (16 * l.i) c.args.items.now)))) in
    record {
      same = high_more f l.i 16 c.args.items.now l.high (omega arith) (omega arith) (omega (arith, c.requires.few)) l.invariant.same row c.store_row.ensures.value
          ∙ ap (λ n. map f (take n c.args.items.now) ++ replicate (64 - n) 0) next;
    }

pub returns-then-rest-eq8 : goal.returns-then-rest-eq8
returns-then-rest-eq8 c =
    let l = c.loop-i in
    let f = λ (d : ℕ). d / 2 ^ c.args.k in
    let xs = c.args.items.now in
    let n = length xs / 16 in
    let at : l.i ≡ n = omega (arith, l.auto.i-end, c.loop-i-test.false) in
    let before = l.invariant.same ∙ ap (λ i. map f (take (16 * i) xs) ++ replicate (64 - 16 * i) 0) at in
    high_all f (16 * n + 8) xs _ (omega (arith, c.if-rest-eq8.true, length-drop (16 * n) xs))
    (high_more f n 8 xs l.high (omega arith) (omega arith) (omega (arith, c.requires.few)) before c.eight_cut.ensures.value c.store_row-then-rest-eq8.ensures.value)

pub returns-then-rest-gt0 : goal.returns-then-rest-gt0
returns-then-rest-gt0 c =
    let l = c.loop-i in
    let f = λ (d : ℕ). d / 2 ^ c.args.k in
    let xs = c.args.items.now in
    let n = length xs / 16 in
    let m = length xs - 16 * n in
    let at : l.i ≡ n = omega (arith, l.auto.i-end, c.loop-i-test.false) in
    let before = l.invariant.same ∙ ap (λ i. map f (take (16 * i) xs) ++ replicate (64 - 16 * i) 0) at in
    let size : length (take m (drop (16 * n) xs)) ≡ m = length-take-le m (drop (16 * n) xs) (omega (arith, length-drop (16 * n) xs)) in
    let row = c.rest_cut.ensures.value ∙ ap (λ z. map f (take m (drop (16 * n) xs)) ++ replicate (16 - z) 0) size in
    high_all f (16 * n + m) xs _ (omega arith)
    (high_more f n m xs l.high (omega arith) (omega arith) (omega (arith, c.requires.few, size, c.if-rest-gt0.true)) before row c.store_row-then-rest-gt0.ensures.value)

pub returns-else-rest-gt0 : goal.returns-else-rest-gt0
returns-else-rest-gt0 c =
    let l = c.loop-i in
    high_all (λ d. d / 2 ^ c.args.k) (16 * l.i) c.args.items.now l.high
    (omega (arith, l.auto.i-end, c.loop-i-test.false, c.if-rest-gt0.false, length-drop (16 * (length c.args.items.now / 16)) c.args.items.now)) l.invariant.same
