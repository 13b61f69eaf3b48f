-- The methods of a product as values of the code: what each stands for, and the value of a number. Definitions only.
use Rattle.std.specs.Prelude.{◌≡◌, ℕ}
use Rattle.std.proofs.Math.Option.{Option, none, some}
use Rattle.enclosure.specs.Methods.{classical, three, four, five, seven, Method as Defined}
use Rattle.refusals.specs.declared.reason.Reason.TheVariants.{UnknownMethod}
use Rattle.refusals.specs.Answer.{Answer, gives, refuse}
use Rattle.matrices.specs.declared.methods.Method.{Method}
use Rattle.matrices.specs.declared.methods.Method.TheVariants.{Classical, Three, Four, Five, Seven}
use Rattle.matrices.specs.Checks.{method_of}

-- the method of the definitions that a value stands for
unfoldable pub meant : Method → Defined
meant Classical = classical
meant Three = three
meant Four = four
meant Five = five
meant Seven = seven

-- the value for a method, or refusal 9 where there is none
abbrev pub value_for : Option Defined → Answer Method
value_for (some classical) = gives Classical
value_for (some three) = gives Three
value_for (some four) = gives Four
value_for (some five) = gives Five
value_for (some seven) = gives Seven
value_for none = refuse UnknownMethod

-- the value for a number
unfoldable pub method_answer : ℕ → Answer Method
method_answer n = value_for (method_of n)

-- r is that value, or the refusal
abbrev pub Numbered : ℕ → Answer Method → Type 0
Numbered n r = r ≡ method_answer n
