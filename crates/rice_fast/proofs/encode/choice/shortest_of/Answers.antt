use Rattle.rice_fast.proofs.Words.{arith, takes_no_compression, takes_second_extension, takes_split}
use Rattle.rice_fast.proofs.encode.choice.shortest_of.Goals as goal

pub returns-then-split-second_extension-clause-value : goal.returns-then-split-second_extension-clause-value
returns-then-split-second_extension-clause-value c =
    let r = c.requires in
    takes_split c.args.setting.now c.args.block.now c.args.k r.best (omega (arith, r.split, r.no_compression)) (omega (arith, r.split, r.second_extension_from))

pub returns-else-split-second_extension-clause-value : goal.returns-else-split-second_extension-clause-value
returns-else-split-second_extension-clause-value c =
    let r = c.requires in
    let is = r.second_extension_is (omega arith) in
    takes_second_extension c.args.setting.now c.args.block.now c.args.k r.best (omega (arith, is, r.no_compression)) (omega (arith, is, r.split))

pub returns-then-split-no_compression-clause-value : goal.returns-then-split-no_compression-clause-value
returns-then-split-no_compression-clause-value c =
    let r = c.requires in
    takes_split c.args.setting.now c.args.block.now c.args.k r.best (omega (arith, r.split, r.no_compression)) (omega (arith, r.split, r.no_compression, r.second_extension_from))

pub returns-else-split-no_compression-clause-value : goal.returns-else-split-no_compression-clause-value
returns-else-split-no_compression-clause-value c =
    let r = c.requires in
    takes_no_compression c.args.setting.now c.args.block.now c.args.k r.best (omega (arith, r.no_compression, r.second_extension_from)) (omega (arith, r.split, r.no_compression))
