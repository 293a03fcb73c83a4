-- Numbers stay where what they are read from stays.
use Rattle.std.proofs.Common.{◌≡◌, ℕ, refl, ap, sym, ◌∙◌, List, Option, Some, None}
use Rattle.std.specs.Prelude.{slice_index, unwrap_or}
use Rattle.bk_func.specs.Records.{ValueRecord, FuncRecord}
use Rattle.bk_func.specs.Numbers.{Program, Env, Origin, phi, argument, argument_word, result, address, loaded, checked, same, computed, origin_of, value_of, number_by, number_of, numbers, state_of, made_of, read_at, address_by, result_place, cut_result}
use Rattle.bk_func.proofs.Unique.{Ranked, solved, are_numbers}

-- what a value with a number from outside reads is the same
abbrev pub ReadsAlike : Origin → FuncRecord → Env → Env → ValueRecord → Type 0
ReadsAlike phi f e d v = e.phis v.id ≡ d.phis v.id
ReadsAlike result f e d v = e.given (slice_index v.args 0) ≡ d.given (slice_index v.args 0)
ReadsAlike loaded f e d v = e.windows (unwrap_or (state_of f v) 0) ≡ d.windows (unwrap_or (state_of f v) 0)
ReadsAlike _ f e d v = Unit {0}

abbrev pub ReadsAt : FuncRecord → Env → Env → Option ValueRecord → Type 0
ReadsAt f e d None = Unit {0}
ReadsAt f e d (Some v) = ReadsAlike (origin_of v.op.family) f e d v

number_by_reads : (o : Origin) (p : Program) (f : FuncRecord) (e d : Env) (m : ℕ → ℕ) (v : ValueRecord) → e.args ≡ d.args → ReadsAlike o f e d v → number_by o p f e m v ≡ number_by o p f d m v
number_by_reads phi p f e d m v a h = h
number_by_reads argument p f e d m v a h = rw a refl
number_by_reads argument_word p f e d m v a h = rw a refl
number_by_reads result p f e d m v a h = ap (λ (xs : List ℕ). cut_result v.op.family p.target v.ty (slice_index xs (result_place v.op.family p f v))) h
number_by_reads address p f e d m v a h = refl
number_by_reads loaded p f e d m v a h = ap (λ (w : List ℕ). made_of v.op.family v.ty v.op.a (read_at p.target v w (address_by p.target v m))) h
number_by_reads checked p f e d m v a h = refl
number_by_reads same p f e d m v a h = refl
number_by_reads computed p f e d m v a h = refl

reads_at : (o : Option ValueRecord) (p : Program) (f : FuncRecord) (e d : Env) (m : ℕ → ℕ) → e.args ≡ d.args → ReadsAt f e d o → number_of o p f e m ≡ number_of o p f d m
reads_at None p f e d m a h = refl
reads_at (Some v) p f e d m a h = number_by_reads (origin_of v.op.family) p f e d m v a h

pub frame : (p : Program) (f : FuncRecord) (live : ℕ → Type 0) (r : ℕ → ℕ) → Ranked f live r → (e d : Env) → e.args ≡ d.args → ((id : ℕ) → live id → ReadsAt f e d (value_of f id)) →
    (id : ℕ) → live id → numbers p f e id ≡ numbers p f d id
frame p f live r ranked e d a h id l =
    are_numbers p f e live r ranked (numbers p f d)
    (λ x k. solved p f d live r ranked x k ∙ sym (reads_at (value_of f x) p f e d (numbers p f d) a (h x k))) id l
