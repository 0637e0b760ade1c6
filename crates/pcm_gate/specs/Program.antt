-- Document 01's program: bytes to bytes, from the state that it makes and sets. Definitions only.
-- Assumes nothing.
use Rattle.std.specs.Prelude.{ℕ, List}
use Rattle.std.specs.Float.Ieee.{neg}
use Rattle.answer.specs.Figures.{f32, nought, one}
use Rattle.noise_gate_settings.specs.declared.Setting.{Setting}
use Rattle.noise_gate_settings.specs.declared.Setting.TheVariants.{Threshold, Ratio, Attack, Release, Hold}
use Rattle.noise_gate.specs.Calls.{make, set_typed}
use Rattle.noise_gate.specs.declared.Gate.{Gate}
use Rattle.pcm_gate.specs.Pass.{outputs}

abbrev pub after : Gate → Setting → Gate
after g t = (set_typed g t).state

-- 48,000 Hz, threshold -12 dB with factor 0.25, ratio 2, hold 1/16 ms, all smoothing numbers 0; attack and release as a made gate has them
unfoldable pub program_gate : Gate
program_gate =
    let made = (make (f32 48000 1) nought nought).state in
    let at-threshold = after made (Threshold (record { 0 = neg (f32 12 1) }) (record { 0 = f32 1 4 })) in
    let at-ratio = after at-threshold (Ratio (f32 2 1)) in
    let at-attack = after at-ratio (Attack one nought) in
    let at-release = after at-attack (Release (f32 100 1) nought) in
    after at-release (Hold (f32 1 16))

-- the bytes that it writes for those that it reads; a last odd byte isn't written
unfoldable pub program : List ℕ → List ℕ
program input = outputs program_gate.settings program_gate.registers input
