use Rattle.std.proofs.Common.{arith}
use Rattle.q_show.proofs.Digits.{digits-one, digits-two, digits-three, digits-four}
use Rattle.q_show.proofs.hexadecimal.Hexadecimal.new.Goals as goal

pub returns-then-n-lt16-clause-text : goal.returns-then-n-lt16-clause-text
returns-then-n-lt16-clause-text c = let spelled = digits-one c.args.n (omega arith) in cc

pub returns-then-n-lt256-clause-text : goal.returns-then-n-lt256-clause-text
returns-then-n-lt256-clause-text c = let spelled = digits-two c.args.n (omega arith) (omega arith) in cc

pub returns-then-n-lt4096-clause-text : goal.returns-then-n-lt4096-clause-text
returns-then-n-lt4096-clause-text c = let spelled = digits-three c.args.n (omega arith) (omega arith) in cc

pub returns-clause-text : goal.returns-clause-text
returns-clause-text c = let spelled = digits-four c.args.n (omega arith) (omega arith) in cc
