-- Choices by their codes as C gives them: each code that names one comes back, every other is refused. Computed.
use mathlib.Core.Path.{◌≡◌, refl}
use mathlib.Core.List.{[], ◌∷◌}
use Rattle.records.specs.Answers.{accepted}
use Rattle.kinds.specs.Choices.{hint_from_code, port_from_code, direction_from_code}
use Rattle.c_structs.specs.Codes.{said_hint, said_port, said_direction}

pub hint-codes :
    (said_hint (hint_from_code 0) ≡ accepted (0 ∷ []))
    × (said_hint (hint_from_code 1) ≡ accepted (1 ∷ []))
    × (said_hint (hint_from_code 2) ≡ accepted (2 ∷ []))
    × (said_hint (hint_from_code 3) ≡ accepted (3 ∷ []))
    × (said_hint (hint_from_code 4) ≡ record { refusal = 12; place = 0; values = [] })
hint-codes = (refl, refl, refl, refl, refl)

pub port-codes :
    (said_port (port_from_code 0) ≡ accepted (0 ∷ []))
    × (said_port (port_from_code 1) ≡ accepted (1 ∷ []))
    × (said_port (port_from_code 2) ≡ accepted (2 ∷ []))
    × (said_port (port_from_code 3) ≡ record { refusal = 12; place = 0; values = [] })
    × (said_port (port_from_code 4) ≡ record { refusal = 12; place = 0; values = [] })
port-codes = (refl, refl, refl, refl, refl)

pub direction-codes :
    (said_direction (direction_from_code 0) ≡ record { refusal = 12; place = 0; values = [] })
    × (said_direction (direction_from_code 1) ≡ accepted (1 ∷ []))
    × (said_direction (direction_from_code 2) ≡ accepted (2 ∷ []))
    × (said_direction (direction_from_code 3) ≡ accepted (3 ∷ []))
    × (said_direction (direction_from_code 4) ≡ record { refusal = 12; place = 0; values = [] })
direction-codes = (refl, refl, refl, refl, refl)
