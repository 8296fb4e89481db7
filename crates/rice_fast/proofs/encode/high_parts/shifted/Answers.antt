use Rattle.rice_fast.proofs.Words.{◌≡◌, ◌*◌, ◌/◌, ◌^◌, ◌∙◌, ap, arith, sym, length, map, take, length-put_chunk, take_all}
use Rattle.rice_fast.proofs.lemmas.encode.HighParts.{row_made}
use Rattle.rice_fast.proofs.encode.high_parts.shifted.Goals as goal

pub loop-i-preserved : goal.loop-i-preserved
loop-i-preserved c =
    let l = c.loop-i in
    let stored = c.store_row.ensures.value in
    record {
      len = ap length stored ∙ (length-put_chunk (16 * l.i) l.all c.row_cut.result ∙ l.invariant.len);
      same = row_made (λ m. m / 2 ^ c.args.k) l.i c.args.numbers.now l.all (omega arith) (omega (arith, l.invariant.len)) l.invariant.same c.row_at.ensures.value c.row_cut.ensures.value stored;
    }

pub returns : goal.returns
returns c =
    let l = c.loop-i in
    let end : 64 ≡ 16 * l.i = omega (arith, l.auto.i-end, c.loop-i-test.false) in
    sym (take_all 64 l.all (omega (arith, l.invariant.len)))
    ∙ (ap (λ n. take n l.all) end ∙ (l.invariant.same ∙ ap (map (λ m. m / 2 ^ c.args.k)) (ap (λ n. take n c.args.numbers.now) (sym end) ∙ take_all 64 c.args.numbers.now (omega arith))))
