use Rattle.rice_fast.proofs.Words.{◌∙◌, refl, subst, sym, w64, to_z-of_z, IsSample, open_between}
use Rattle.rice_fast.proofs.lemmas.encode.StandingCoders.{begun_stands}
use Rattle.rice_fast.proofs.encode.coder.BlockCoder.resume.Goals as goal

pub level_of_sample-requires : goal.level_of_sample-requires
level_of_sample-requires c =
    let opens = open_between c.args.setting c.args.start c.args.previous c.requires.0 c.requires.1 in
    subst (IsSample c.args.setting) (sym (to_z-of_z w64 c.args.previous c.ranges.previous)) opens.previous

pub returns : goal.returns
returns c sink meter =
    begun_stands c.args.setting c.args.start _ _ _ sink meter c.args.previous c.requires.0 c.requires.1
    (c.level_of_sample.ensures.value ∙ to_z-of_z w64 c.args.previous c.ranges.previous) c.level_of_sample.ensures.below c.blocks_left.ensures.value refl
