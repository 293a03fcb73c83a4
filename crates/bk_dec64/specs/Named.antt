-- Blocks and calls by their numbers.
use Rattle.std.specs.Prelude.{◌≡◌, ℕ, ◌==◌, List, [], position, Option, Some, None}
use Rattle.std.specs.BTreeMap.{get}
use Rattle.std.specs.Ordering.{nat_cmp}
use Rattle.bk_ops.specs.declared.types.Ty.{Ty}
use Rattle.bk_func.specs.declared.parts.Aux.{Aux}
use Rattle.bk_func.specs.Records.{BlockRecord, PackageRecord}
use Rattle.bk_func.specs.Form.Signatures.{sig_of}
use Rattle.bk_dec64.specs.Signatures.{Signatures, args_of, results_of}
use Rattle.bk_dec64.specs.declared.places.Places.{Places}
use Rattle.bk_dec64.specs.declared.tables.Plan.{Plan}

-- the map has the place of the first block with each number
abbrev pub HasPlaces : List BlockRecord → Places → Type 0
HasPlaces bs m = (n : ℕ) → get nat_cmp m.places n ≡ position (λ b. b.id == n) bs

-- the types of what the call beside which this stands gives
abbrev pub results_beside : PackageRecord → Option Aux → List Ty
results_beside p None = []
results_beside p (Some a) = results_of (sig_of p a)

-- the signatures that these tables and the package have
abbrev pub seen_plan : Plan → Signatures
seen_plan p = record {
  args = λ a. args_of (sig_of p.pkg.now a);
  results = λ n. results_beside p.pkg.now (get nat_cmp p.calls n);
  own = p.own;
}
