use Rattle.std.proofs.Common.{rules, inl, subst, sym, w64}
use Rattle.rice_code.proofs.lemmas.encode.PushedSamples.{holds_one, whole_is_sound, whole_has_steps, whole_pushes, open_pushes, is_coder_after}
use Rattle.rice_code.proofs.{Words.to_z-of_z, Words.IsSample, Words.CoderState, lemmas.encode.PushedCode.short_of}
use Rattle.rice_code.proofs.encode.coder.Coder.push_counted.Goals as goal

pub hold-requires : goal.hold-requires
hold-requires c =
    let same = to_z-of_z w64 c.args.x c.ranges.x in
    let sample = subst (IsSample c.self.inside.segment.setting) (sym same) (subst (λ (v : CoderState). IsSample v.setting c.args.x) (sym c.self.view_is) c.requires.sample) in
    record { sample = sample; room = short_of c.self.inside.segment c.self.invariant.samples c.self.invariant.taken }

pub code-bits-requires : goal.code-bits-requires
code-bits-requires c =
    let more = holds_one c.self.view_is c.self.invariant c.requires.sample (to_z-of_z w64 c.args.x c.ranges.x) c.hold.ensures in
    record { blocks = whole_is_sound _ _ _ _ more (search rules); room = inl c.requires.room; meter = whole_has_steps _ _ _ _ _ _ more c.requires.meter c.tick.ensures }

pub invariant_of-self : goal.invariant_of-self
invariant_of-self c =
    let more = holds_one c.self.view_is c.self.invariant c.requires.sample (to_z-of_z w64 c.args.x c.ranges.x) c.hold.ensures in
    is_coder_after more (whole_pushes more (search rules) c.begin_next.ensures c.code-bits.ensures c.tick.ensures)

pub invariant_of-self-else-is_whole : goal.invariant_of-self-else-is_whole
invariant_of-self-else-is_whole c =
    let more = holds_one c.self.view_is c.self.invariant c.requires.sample (to_z-of_z w64 c.args.x c.ranges.x) c.hold.ensures in
    is_coder_after more (open_pushes {sink = c.args.sink.now} more (search rules) c.tick.ensures)

pub returns-then-is_whole : goal.returns-then-is_whole
returns-then-is_whole c =
    let more = holds_one c.self.view_is c.self.invariant c.requires.sample (to_z-of_z w64 c.args.x c.ranges.x) c.hold.ensures in
    whole_pushes more (search rules) c.begin_next.ensures c.code-bits.ensures c.tick.ensures

pub returns-else-is_whole : goal.returns-else-is_whole
returns-else-is_whole c =
    let more = holds_one c.self.view_is c.self.invariant c.requires.sample (to_z-of_z w64 c.args.x c.ranges.x) c.hold.ensures in
    open_pushes more (search rules) c.tick.ensures
