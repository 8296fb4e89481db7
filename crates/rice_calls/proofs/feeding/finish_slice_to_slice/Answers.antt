use Rattle.rice_bits.specs.Devices.{slice_state}
use Rattle.rice_calls.proofs.lemmas.FedOutlets.{rest_fills}
use Rattle.rice_calls.proofs.feeding.finish_slice_to_slice.Goals as goal

pub returns-clause-borrow : goal.returns-clause-borrow
returns-clause-borrow g c =
    let old = slice_state c.args.outlet.now in
    let new = slice_state c.encode_rest.new.outlet in
    (rest_fills c.args.setting.now c.requires.seam.0 c.args.samples.now old new c.encode_rest.result.report c.encode_rest.result.fault
    (c.encode_rest.ensures.did c.requires.seam.0 c.requires.seam.1)).1.borrow
