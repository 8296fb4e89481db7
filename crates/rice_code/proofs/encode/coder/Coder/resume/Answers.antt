use Rattle.std.proofs.Common.{ℤ, ◌*◌, ◌∙◌, ap, rules, subst, sym, w64}
use Rattle.rice_code.proofs.{Words.to_z-of_z, Words.blocks_left, Words.IsCoder, Words.IsOpen, Words.state_between, lemmas.encode.PushedCode.open_between}
use Rattle.rice_code.proofs.encode.coder.Coder.resume.Goals as goal

pub resume-requires : goal.resume-requires
resume-requires c =
    let s = c.args.setting in
    let start = c.args.start in
    let opens = subst (λ (p : ℤ). IsOpen (state_between s start p) (s.block * blocks_left s start)) (sym (to_z-of_z w64 c.args.previous c.ranges.previous))
    (open_between s start c.args.previous c.requires.0 c.requires.1) in
    opens

pub invariant_of-result : goal.invariant_of-result
invariant_of-result c =
    let same = to_z-of_z w64 c.args.previous c.ranges.previous in
    subst IsCoder (sym (c.resume.ensures ∙ ap (state_between c.args.setting c.args.start) same)) (record { samples = c.requires.0; taken = c.requires.1 })

pub returns : goal.returns
returns c = search rules
