use Rattle.rice_bits.specs.Devices.{slice_state}
use Rattle.rice_calls.proofs.lemmas.FedOutlets.{more_fills}
use Rattle.rice_calls.proofs.feeding.push_slice_to_slice.Goals as goal

pub returns-clause-borrow : goal.returns-clause-borrow
returns-clause-borrow g c =
    let old = slice_state c.args.outlet.now in
    let new = slice_state c.encode_more.new.outlet in
    (more_fills c.args.setting.now c.requires.seam.0 c.args.samples.now old new c.encode_more.result (c.encode_more.ensures.did c.requires.seam.0 c.requires.seam.1)).1.borrow
