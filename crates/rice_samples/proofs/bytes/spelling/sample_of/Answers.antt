use Rattle.std.proofs.Common.{◌*◌, arith, Option, Some, None, IfSome, IfNone}
use Rattle.std.proofs.lemmas.{Grind.common_steps, Nat.one_shl}
use Rattle.rice_samples.proofs.lemmas.bytes.SpellingLemmas.{spelled_level, level_spelled}
use Rattle.rice_samples.proofs.bytes.spelling.sample_of.Goals as goal

if_some : {A : Type 0} (P Q : A → Type 0) (found : Option A) → ((x : A) → P x → Q x) → IfSome found P → IfSome found Q
if_some P Q (Some x) f p = f x p
if_some P Q None f p = tt

if_none : {A : Type 0} (P Q : Type 0) (found : Option A) → (P → Q) → IfNone found P → IfNone found Q
if_none P Q (Some x) f p = tt
if_none P Q None f p = f p

pub returns-clause-value : goal.returns-clause-value
returns-clause-value c =
    let s = c.args.setting.now in
    let word = c.number_of_bytes-word in
    let w = c.width.ensures in
    let shift = one_shl (8 * c.width.result) 64 (omega arith) in
    grind (arith, common_steps, if_some, spelled_level)

pub returns-clause-none : goal.returns-clause-none
returns-clause-none c = grind (arith, common_steps, one_shl, if_none, level_spelled)
