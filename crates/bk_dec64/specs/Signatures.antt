-- The signatures that the values of a function speak of.
use Rattle.std.specs.Prelude.{ℕ, ◌==◌, Bool, ◌&&◌, true, false, List, [], Option, Some, None, flat_map}
use Rattle.std.specs.List.{find}
use Rattle.bk_ops.specs.declared.family.Family.{Family}
use Rattle.bk_ops.specs.declared.family.Family.TheVariants as op
use Rattle.bk_ops.specs.declared.types.Ty.{Ty}
use Rattle.bk_func.specs.declared.parts.Aux.{Aux}
use Rattle.bk_func.specs.Form.Signatures.{sig_of}
use Rattle.bk_func.specs.Records.{ValueRecord, FuncRecord, SigRecord, PackageRecord}
use Rattle.bk_dec64.specs.declared.role.Role.{Role}
use Rattle.bk_dec64.specs.declared.role.Role.TheVariants.{Phi, Argument, Load, Store, Call, Selection, Results, Other}

-- what a value is to a number that goes in words: a phi, an argument, a load or a store of it, a call in the function, what
-- a call gave, the function's own results, or none of these
abbrev pub role_of : Family → Role
role_of op.Phi = Phi
role_of op.Arg = Argument
role_of op.Load = Load
role_of op.Store = Store
role_of op.StaticLECall = Call
role_of op.SelectN = Selection
role_of op.MakeResult = Results
role_of _ = Other

abbrev pub role : ValueRecord → Role
role v = role_of v.op.family

abbrev pub is_call : Role → Bool
is_call Call = true
is_call _ = false

-- the types of the arguments of the function that a call names, by what stands beside the call; the types of what a call
-- gives, by the call's number; and the function's own signature
pub record Signatures : Type 0 where
  pub args : Aux → List Ty
  pub results : ℕ → List Ty
  pub own : SigRecord

abbrev pub args_of : Option SigRecord → List Ty
args_of None = []
args_of (Some g) = g.args

abbrev pub results_of : Option SigRecord → List Ty
results_of None = []
results_of (Some g) = g.results

-- the first call with a number
abbrev pub call_named : List ValueRecord → ℕ → Option ValueRecord
call_named vs n = find (λ v. is_call (role v) && v.id == n) vs

abbrev pub given_by : PackageRecord → Option ValueRecord → List Ty
given_by p None = []
given_by p (Some c) = results_of (sig_of p c.aux)

abbrev pub signatures_of : PackageRecord → FuncRecord → Signatures
signatures_of p f = record {
  args = λ a. args_of (sig_of p a);
  results = λ n. given_by p (call_named (flat_map (λ b. b.values) f.blocks) n);
  own = f.sig;
}
