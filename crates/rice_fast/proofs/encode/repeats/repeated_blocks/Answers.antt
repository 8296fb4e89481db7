use Rattle.rice_fast.proofs.Words.{ℕ, ◌≡◌, ◌+◌, ◌-◌, ◌*◌, ◌/◌, ◌≤◌, ◌∙◌, ap, arith, drop, refl, replicate, subst, sym, take, div-mul-le_self, value_at, width, spellings}
use Rattle.rice_fast.proofs.lemmas.encode.Repeats.{fewer_repeated, more_repeated, row_repeated}
use Rattle.rice_fast.proofs.lemmas.vectors.LevelsInLanes.{level_fits}
use Rattle.rice_fast.proofs.encode.repeats.repeated_blocks.Goals as goal

pub splat-same-requires : goal.splat-same-requires
splat-same-requires g c = level_fits c.args.setting.now c.args.level g.L.Lanes.bits c.requires.level c.requires.bits.most

-- the rows are those of this number of samples
as_samples : (len w n k rows : ℕ) → len ≡ w * n → k ≡ n → len * rows ≡ w * (k * rows)
as_samples len w n k rows e f = (let a : w * n * rows ≡ w * (n * rows) = omega arith in ap (λ m. m * rows) e ∙ (a ∙ ap (λ m. w * (m * rows)) (sym f)))

pub loop-rows-preserved : goal.loop-rows-preserved
loop-rows-preserved g c =
    let s = c.args.setting.now in
    let x = value_at s c.args.level in
    let n = g.L.Lanes.COUNT in
    let l = c.loop-rows in
    let len = c.width.result * c.COUNT.result in
    let bytes = c.args.bytes.now in
    let is : len ≡ width s * n = (λ j. c.width.ensures.value j * c.COUNT.ensures j) in
    let place : len * l.rows ≡ width s * (n * l.rows) = as_samples len (width s) n n l.rows is (omega arith) in
    let old : take (width s * (n * l.rows)) bytes ≡ spellings s (replicate (n * l.rows) x) = subst (λ m. take m bytes ≡ spellings s (replicate (n * l.rows) x)) place l.invariant.repeated in
    let numbers = g.L.Lanes.numbers c.levels_in-row.result in
    let row = row_repeated s c.args.level numbers (g.met.L.Lanes.len c.levels_in-row.result) c.splat-same.ensures c.xor.ensures (c.if-not-is_zero.ensures refl) in
    let part : take (width s * n) (drop (width s * (n * l.rows)) bytes) ≡ spellings s (replicate n x) =
    (let t : len * l.rows + len - len * l.rows ≡ width s * n = omega (arith, is) in (λ j. take (sym t j) (drop (sym place j) bytes))) ∙ (c.levels_in-row.ensures ∙ ap (spellings s) row) in
    let all = more_repeated s x (n * l.rows) n bytes old part in
    let more : len * (l.rows + 1) ≡ len * l.rows + len = omega arith in
    let as_much : width s * (n * l.rows + n) ≡ width s * (n * l.rows) + width s * n = omega arith in
    let next : len * (l.rows + 1) ≡ width s * (n * l.rows + n) = more ∙ ((λ j. place j + is j) ∙ sym as_much) in
    let count : n * l.rows + n ≡ n * (l.rows + 1) = omega arith in
    record {
      most = omega (arith, c.loop-rows-test.true);
      repeated = ap (λ m. take m bytes) next ∙ (all ∙ ap (λ m. spellings s (replicate m x)) count);
    }

pub returns-clause-spelled : goal.returns-clause-spelled
returns-clause-spelled g c =
    let s = c.args.setting.now in
    let n = g.L.Lanes.COUNT in
    let l = c.loop-rows in
    let len = c.width.result * c.COUNT.result in
    let bytes = c.args.bytes.now in
    let samples = c.COUNT-2.result * l.rows in
    let is : len ≡ width s * n = (λ j. c.width.ensures.value j * c.COUNT.ensures j) in
    let place : len * l.rows ≡ width s * samples = as_samples len (width s) n c.COUNT-2.result l.rows is c.COUNT-2.ensures in
    let count : n * l.rows ≡ samples = ap (λ m. m * l.rows) (sym c.COUNT-2.ensures) in
    let all : take (width s * samples) bytes ≡ spellings s (replicate samples (value_at s c.args.level)) =
    ap (λ m. take m bytes) (sym place) ∙ (l.invariant.repeated ∙ ap (λ m. spellings s (replicate m (value_at s c.args.level))) count) in
    let q = samples / c.block.result in
    let turned : s.block * q ≡ q * c.block.result = ap (λ b. b * q) (sym c.block.ensures.value) ∙ omega arith in
    let few : s.block * q ≤ samples = omega (arith, turned, div-mul-le_self samples c.block.result) in
    fewer_repeated s (value_at s c.args.level) (s.block * q) samples bytes few all
