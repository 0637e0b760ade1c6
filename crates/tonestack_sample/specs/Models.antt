-- The four models and their numbers. Definitions only.
-- Assumes nothing.
use Rattle.std.specs.Prelude.{ℕ, List, [], ◌∷◌, get_or}
use Rattle.common.specs.declared.frequencies.Model.{Model}
use Rattle.common.specs.declared.frequencies.Model.TheVariants.{Modern, British, American, Flat}

abbrev pub last_model : ℕ
last_model = 3

-- the models in the order of their numbers, from 0
abbrev pub models : List Model
models = Modern ∷ British ∷ American ∷ Flat ∷ []

unfoldable pub number_of : Model → ℕ
number_of Modern = 0
number_of British = 1
number_of American = 2
number_of Flat = 3

-- the model that has a number; one above 3 is in no state that 9 accepts
unfoldable pub model_of : ℕ → Model
model_of number = get_or models number Flat
