-- The numbers of a call's values are the one solution of their equations.
use Rattle.std.proofs.Common.{◌≡◌, ℕ, zero, suc, ◌<◌, refl, ap, sym, ◌∙◌, arith, inl, inr, List, [], ◌∷◌, map, Option, Some, None}
use Rattle.std.specs.Prelude.{slice_index, unwrap_or}
use Rattle.bk_ops.specs.Values.{op_value}
use Rattle.bk_func.specs.Records.{ValueRecord, FuncRecord}
use Rattle.bk_func.specs.Numbers.{Program, Env, Origin, phi, argument, argument_word, result, address, loaded, checked, same, computed, origin_of, value_of, number_by, number_of, number, numbers, room}
use Rattle.bk_func.proofs.Faults.{In}

-- the values whose numbers a value's number follows from
abbrev pub inputs_by : Origin → ValueRecord → List ℕ
inputs_by loaded v = slice_index v.args 0 ∷ []
inputs_by checked v = slice_index v.args 0 ∷ []
inputs_by same v = slice_index v.args 0 ∷ []
inputs_by computed v = v.args
inputs_by _ v = []

abbrev pub inputs_of : Option ValueRecord → List ℕ
inputs_of None = []
inputs_of (Some v) = inputs_by (origin_of v.op.family) v

-- the live values have ranks: a value's inputs are live and rank below it, and no rank is above the count of values
pub record Ranked (f : FuncRecord) (live : ℕ → Type 0) (r : ℕ → ℕ) : Type 0 where
  pub falls : (id : ℕ) → live id → (x : ℕ) → In x (inputs_of (value_of f id)) → live x × (r x < r id)
  pub few : (id : ℕ) → live id → r id < room f

-- each live value's number follows from those of its inputs
abbrev pub Solves : Program → FuncRecord → Env → (ℕ → Type 0) → (ℕ → ℕ) → Type 0
Solves p f e live m = (id : ℕ) → live id → m id ≡ number_of (value_of f id) p f e m

map_same : (m n : ℕ → ℕ) (xs : List ℕ) → ((x : ℕ) → In x xs → m x ≡ n x) → map m xs ≡ map n xs
map_same m n [] h = refl
map_same m n (x ∷ xs) h = let e = map_same m n xs (λ y i. h y (inr i)) in let d = h x (inl refl) in cc

pub number_same : (o : Origin) (p : Program) (f : FuncRecord) (e : Env) (m n : ℕ → ℕ) (v : ValueRecord) → ((x : ℕ) → In x (inputs_by o v) → m x ≡ n x) →
    number_by o p f e m v ≡ number_by o p f e n v
number_same phi p f e m n v h = refl
number_same argument p f e m n v h = refl
number_same argument_word p f e m n v h = refl
number_same result p f e m n v h = refl
number_same address p f e m n v h = refl
number_same loaded p f e m n v h = rw (h (slice_index v.args 0) (inl refl)) refl
number_same checked p f e m n v h = h (slice_index v.args 0) (inl refl)
number_same same p f e m n v h = h (slice_index v.args 0) (inl refl)
number_same computed p f e m n v h = ap (λ xs. unwrap_or (op_value v.op v.int xs p.target) 0) (map_same m n v.args h)

pub equation_same : (o : Option ValueRecord) (p : Program) (f : FuncRecord) (e : Env) (m n : ℕ → ℕ) → ((x : ℕ) → In x (inputs_of o) → m x ≡ n x) → number_of o p f e m ≡ number_of o p f e n
equation_same None p f e m n h = refl
equation_same (Some v) p f e m n h = number_same (origin_of v.op.family) p f e m n v h

pub unique : (p : Program) (f : FuncRecord) (e : Env) (live : ℕ → Type 0) (r : ℕ → ℕ) → Ranked f live r → (m : ℕ → ℕ) → Solves p f e live m →
    (k id : ℕ) → live id → r id < k → m id ≡ number k p f e id
unique p f e live r ranked m solves zero id l h = absurd (omega arith)
unique p f e live r ranked m solves (suc k) id l h =
    solves id l
    ∙ equation_same (value_of f id) p f e m (number k p f e)
    (λ x i. let q = ranked.falls id l x i in unique p f e live r ranked m solves k x q.0 (omega (arith, q.1)))

-- more room changes nothing
stable : (p : Program) (f : FuncRecord) (e : Env) (live : ℕ → Type 0) (r : ℕ → ℕ) → Ranked f live r → (k id : ℕ) → live id → r id < k → number (suc k) p f e id ≡ number k p f e id
stable p f e live r ranked zero id l h = absurd (omega arith)
stable p f e live r ranked (suc k) id l h =
    equation_same (value_of f id) p f e (number (suc k) p f e) (number k p f e)
    (λ x i. let q = ranked.falls id l x i in stable p f e live r ranked k x q.0 (omega (arith, q.1)))

pub solved : (p : Program) (f : FuncRecord) (e : Env) (live : ℕ → Type 0) (r : ℕ → ℕ) → Ranked f live r → Solves p f e live (numbers p f e)
solved p f e live r ranked id l = sym (stable p f e live r ranked (room f) id l (ranked.few id l))

-- another solution is the numbers
pub are_numbers : (p : Program) (f : FuncRecord) (e : Env) (live : ℕ → Type 0) (r : ℕ → ℕ) → Ranked f live r → (m : ℕ → ℕ) → Solves p f e live m → (id : ℕ) → live id → numbers p f e id ≡ m id
are_numbers p f e live r ranked m solves id l = sym (unique p f e live r ranked m solves (room f) id l (ranked.few id l))
