use Rattle.rice_fast.proofs.Words.{◌≡◌, ◌+◌, ◌≤◌, ◌∙◌, ◌++◌, replicate, ap, map-id, subst, sym, take, All, All-take, last_number, ranks_below, All-append, get_or-replicate, arith}
use Rattle.rice_fast.proofs.lemmas.vectors.RanksForTurns.{repeated}
use Rattle.rice_fast.proofs.lanes.bytes.BytesSampleLanes.in_turn.Goals as goal

pub write_selected-last-requires-clause-ranks : goal.write_selected-last-requires-clause-ranks
write_selected-last-requires-clause-ranks c =
    subst (All (λ d. d ≤ c.args.greatest)) (sym (map-id (take 8 c.args.self.lanes))) (All-take (λ d. d ≤ c.args.greatest) 8 c.args.self.lanes c.requires.ranks)

pub returns-clause-fit : goal.returns-clause-fit
returns-clause-fit c =
    let turned = c.write_selected-last in
    let whole : c.of-2.result.lanes ≡ turned.new.numbers ++ replicate 8 turned.result = c.of-2.ensures ∙ ap (λ xs. xs ++ replicate 8 turned.result) c.copy_from_slice.ensures.after in
    subst (All (λ x. x ≤ c.args.greatest)) (sym whole)
    (All-append (λ x. x ≤ c.args.greatest) turned.new.numbers (replicate 8 turned.result) (subst (All (λ x. x ≤ c.args.greatest)) (map-id turned.new.numbers) turned.ensures.fit)
    (λ i d lt. rw (get_or-replicate 8 i turned.result d (omega (arith, lt))) turned.ensures.within))

pub returns-clause-ranks : goal.returns-clause-ranks
returns-clause-ranks c =
    let turned = c.write_selected-last in
    let same = map-id turned.new.numbers in
    let whole : c.of-2.result.lanes ≡ turned.new.numbers ++ replicate 8 turned.result = c.of-2.ensures ∙ ap (λ xs. xs ++ replicate 8 turned.result) c.copy_from_slice.ensures.after in
    ap (ranks_below (c.args.greatest + 1) c.args.before) whole
    ∙ repeated c.args.greatest c.args.before 8 turned.result c.args.self.lanes turned.new.numbers turned.ensures.within
    (turned.ensures.last ∙ ap (last_number c.args.before) same)
    (ap (ranks_below (c.args.greatest + 1) c.args.before) (sym same) ∙ (turned.ensures.ranks ∙ map-id (take 8 c.args.self.lanes)))
    (c.last_eight_are_zeros.ensures (c.if-not-last_eight_are_zeros.false))
