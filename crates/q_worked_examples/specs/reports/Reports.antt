-- What a computed script says: the bytes of its report follow from the bytes of its lines.
-- Where nothing else is said the device has the defaults of `qtree play`, and an allocation fails at no line.
use Rattle.std.specs.Prelude.{◌≡◌, ℕ, List, [], ◌∷◌, ◌++◌}
use Rattle.std.specs.List.{flat_map}
use Rattle.q_model.specs.Settings.{DeviceSettings}
use Rattle.q_script_semantics.specs.Report.{report}

abbrev pub settings : DeviceSettings
settings = record { mtu = 1514; txqueuelen = 1000; recorder = 4096 }

-- lines, each with its end
abbrev pub ended : List (List ℕ) → List ℕ
ended lines = flat_map (λ line. line ++ 10 ∷ []) lines

-- on a device with these settings, with this seed of the hash, and with an allocation failure at these lines
abbrev pub reported : DeviceSettings → ℕ → List ℕ → List (List ℕ) → List (List ℕ) → Type 0
reported device seed starved script lines = report device seed (ended script) starved ≡ ended lines

abbrev pub reports_on : DeviceSettings → List (List ℕ) → List (List ℕ) → Type 0
reports_on device script lines = reported device 0 [] script lines

abbrev pub reports_with : ℕ → List ℕ → List (List ℕ) → List (List ℕ) → Type 0
reports_with seed starved script lines = reported settings seed starved script lines

abbrev pub reports : List (List ℕ) → List (List ℕ) → Type 0
reports script lines = reports_with 0 [] script lines
