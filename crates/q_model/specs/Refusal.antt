-- The number and the name of each refusal of a command, as reports write them, and the text that shows one.
-- Numbers and names are this project's own.
use Rattle.std.specs.Prelude.{ℕ, List, ◌++◌, codes, decimal}
use Rattle.q_model.specs.declared.refusal.Refusal.{Refusal}
use Rattle.q_model.specs.declared.refusal.Refusal.TheVariants.{NoParent, Exists, NoQdisc, HandleTaken, NotClassful, NoClass, Busy, CannotChange, TooDeep, TooMany, SmallBurst, NoFilter, Memory}

abbrev pub refusal_number : Refusal → ℕ
refusal_number NoParent = 10
refusal_number Exists = 11
refusal_number NoQdisc = 12
refusal_number HandleTaken = 13
refusal_number NotClassful = 14
refusal_number NoClass = 15
refusal_number Busy = 16
refusal_number CannotChange = 17
refusal_number TooDeep = 18
refusal_number TooMany = 19
refusal_number SmallBurst = 20
refusal_number NoFilter = 21
refusal_number Memory = 90

abbrev pub refusal_name : Refusal → List ℕ
refusal_name NoParent = codes "NoParent"
refusal_name Exists = codes "Exists"
refusal_name NoQdisc = codes "NoQdisc"
refusal_name HandleTaken = codes "HandleTaken"
refusal_name NotClassful = codes "NotClassful"
refusal_name NoClass = codes "NoClass"
refusal_name Busy = codes "Busy"
refusal_name CannotChange = codes "CannotChange"
refusal_name TooDeep = codes "TooDeep"
refusal_name TooMany = codes "TooMany"
refusal_name SmallBurst = codes "SmallBurst"
refusal_name NoFilter = codes "NoFilter"
refusal_name Memory = codes "Memory"

abbrev pub refusal_text : Refusal → List ℕ
refusal_text refusal = codes "refused " ++ decimal (refusal_number refusal) ++ codes " " ++ refusal_name refusal
