-- `stepping::most_steps` meets its contract: a number above 0 has at least one bit.
use Rattle.std.proofs.Common.{rules, ◌≡◌, ◌*◌, ◌-◌, nat_abs, ℕ}
use mathlib.Core.Path.{ap}
use Rattle.whole.specs.BitLength.{bit_length}
use Rattle.rules.specs.Elimination.{step_bound}
use Rattle.stepping.proofs.LeastBits.{one_bit}
use Rattle.stepping.proofs.most_steps.Goals as goal

pub overflow_sub-result : goal.overflow_sub-result
overflow_sub-result c =
    let bits : c.bit_length-bits.result ≡ bit_length (nat_abs c.args.least) = search rules in
    rw bits (one_bit (nat_abs c.args.least) c.requires.0)

pub returns : goal.returns
unfolding step_bound
returns c =
    let bits : c.bit_length-bits.result ≡ bit_length (nat_abs c.args.least) = search rules in
    ap (λ (k : ℕ). 2 * k - 1) bits
