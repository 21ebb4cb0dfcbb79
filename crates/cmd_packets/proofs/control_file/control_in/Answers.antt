use Rattle.std.proofs.Common.{◌≡◌, ◌⊎◌, ℕ, List, Err, refl, sym, subst}
use Rattle.qwk_control.specs.Fault.{ControlFault}
use Rattle.qwk_control.specs.declared.control.Control.{Control}
use Rattle.qwk_control.specs.declared.fault.ControlError.TheVariants.{OutOfMemory}
use Rattle.shelf_files.specs.declared.halt.Halt.{Halt}
use Rattle.shelf_files.specs.Halts.{Comes}
use Rattle.cmd_packets.specs.Packets.{ControlOf}
use Rattle.cmd_packets.proofs.PacketAnswers.{control_comes}
use Rattle.cmd_packets.proofs.control_file.control_in.Goals as goal

pub returns-clause-control : goal.returns-clause-control
returns-clause-control g c tells =
    let error = c.in-Err.error in
    let fault : (error ≡ OutOfMemory) ⊎ ControlFault c.in_ok-bytes.bytes error =
    subst (λ (bytes : List ℕ). (error ≡ OutOfMemory) ⊎ ControlFault bytes error) c.as_slice.ensures.same (c.in-Err.ensures.fault error refl) in
    subst (λ (halt : Halt). Comes {Value = Control} (Err halt) (ControlOf (g.S.Shelf.files c.args.shelf.now) c.args.name.now)) (sym c.halt_of.ensures)
    (control_comes _ c.in_ok-bytes.bytes error (c.in_ok-bytes.ensures.file tells) fault)
