-- `pcm_gate::program::program_gate` meets its contract. Assumes nothing.
use Rattle.std.specs.Prelude.{◌≡◌, Option, Some, None, Result, Ok, Err}
use Rattle.std.specs.Result.{result_unwrap_or}
use mathlib.Core.Path.{ap, ◌∙◌}
use lib.Ieee.{of_bits, neg}
use Rattle.float.specs.declared.Truncation.{Truncation}
use Rattle.answer.specs.Figures.{f32, nought}
use Rattle.noise_gate.specs.Calls.{unmade, make}
use Rattle.noise_gate_settings.specs.declared.Setting.TheVariants.{Hold}
use Rattle.answer.specs.Told.{Told, told_made}
use Rattle.answer.specs.declared.Refusal.{Refusal}
use Rattle.noise_gate.specs.Answers.{told_set}
use Rattle.noise_gate.specs.declared.Gate.{Gate}
use Rattle.pcm_gate.specs.Program.{after, program_gate}
use Rattle.pcm_gate.proofs.program.program_gate.Goals as goal

-- what is told of a making holds the gate made
making : (a : Result Gate Refusal) {t : Told Gate} → told_made unmade a ≡ t → result_unwrap_or a unmade ≡ t.state
making (Ok g) e = ap (λ (w : Told Gate). w.state) e
making (Err r) e = ap (λ (w : Told Gate). w.state) e

-- what is told of a setting holds the gate after it
left : (g : Gate) (a : Result (Option Truncation) Refusal) {t : Told Gate} → told_set g a ≡ t → g ≡ t.state
left g (Ok None) e = ap (λ (w : Told Gate). w.state) e
left g (Ok (Some h)) e = ap (λ (w : Told Gate). w.state) e
left g (Err r) e = ap (λ (w : Told Gate). w.state) e

pub returns : goal.returns
unfolding program_gate f32 of_bits neg
returns c =
    let made : c.unwrap_or-g.result ≡ (make (f32 48000 1) nought nought).state = c.unwrap_or-g.ensures ∙ rw c.unmade.ensures (making c.make.result c.make.ensures) in
    let set : c.set_typed-5.new.self ≡ after c.set_typed-4.new.self (Hold (f32 1 16)) = left _ c.set_typed-5.result c.set_typed-5.ensures in
    set ∙ rw (left _ c.set_typed-4.result c.set_typed-4.ensures, left _ c.set_typed-3.result c.set_typed-3.ensures, left _ c.set_typed-2.result c.set_typed-2.ensures, left _ c.set_typed.result c.set_typed.ensures, made)
