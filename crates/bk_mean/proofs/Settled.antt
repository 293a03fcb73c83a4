-- The numbers and faults of values in their turn.
use Rattle.std.proofs.Common.{◌≡◌, ℕ, refl, ap, sym, ◌∙◌, List, None}
use Rattle.std.specs.Prelude.{slice_set, unwrap_or}
use Rattle.bk_ops.specs.declared.types.Target.{Target}
use Rattle.bk_func.specs.Records.{ValueRecord, FuncRecord}
use Rattle.bk_func.specs.Numbers.{Program, Env, loaded, number_by, made_of, read_at, address_by}
use Rattle.bk_func.specs.Meaning.{fault_by}
use Rattle.bk_mean.specs.declared.role.Origin.{Origin}
use Rattle.bk_mean.specs.declared.role.Origin.TheVariants as rust
use Rattle.bk_mean.specs.Seen.{seen_origin}
use Rattle.bk_mean.specs.Step.{Stands, Sees, Follows, IsSettled, settled}

-- a load's number is that of the bytes in the window of its state
pub load_number : (p : Program) (f : FuncRecord) (e : Env) (m : ℕ → ℕ) (v : ValueRecord) (t : Target) (args window : List ℕ) → Stands p e t args → Sees f e window loaded v →
    made_of v.op.family v.ty v.op.a (read_at t v window (address_by t v m)) ≡ number_by loaded p f e m v
load_number p f e m v t args window s (n, q, w) =
    ap (λ (x : Target). made_of v.op.family v.ty v.op.a (read_at x v window (address_by x v m))) (sym s.target)
    ∙ ap (λ (d : List ℕ). made_of v.op.family v.ty v.op.a (read_at p.target v d (address_by p.target v m))) (sym w)
    ∙ ap (λ o. made_of v.op.family v.ty v.op.a (read_at p.target v (e.windows (unwrap_or o 0)) (address_by p.target v m))) (sym q)

-- what is neither an edge's nor a call's, and neither loads nor checks
pub record IsPlain (o : Origin) : Type 0 where
  pub phi : ¬ (o ≡ rust.Phi)
  pub result : ¬ (o ≡ rust.Result)
  pub loaded : ¬ (o ≡ rust.Loaded)
  pub checked : ¬ (o ≡ rust.Checked)

pub plain_fault : (o : Origin) → IsPlain o → (t : Target) (m : ℕ → ℕ) (w : List ℕ) (v : ValueRecord) → fault_by (seen_origin o) t m w v ≡ None
plain_fault rust.Phi h t m w v = absurd (h.phi refl)
plain_fault rust.Result h t m w v = absurd (h.result refl)
plain_fault rust.Loaded h t m w v = absurd (h.loaded refl)
plain_fault rust.Checked h t m w v = absurd (h.checked refl)
plain_fault rust.Argument h t m w v = refl
plain_fault rust.ArgumentWord h t m w v = refl
plain_fault rust.Address h t m w v = refl
plain_fault rust.Same h t m w v = refl
plain_fault rust.Computed h t m w v = refl

pub plain_follows : (o : Origin) → IsPlain o → (t : Target) (v : ValueRecord) → IsSettled (seen_origin o) t v → Follows (seen_origin o) v
plain_follows rust.Phi h t v k = absurd (h.phi refl)
plain_follows rust.Result h t v k = absurd (h.result refl)
plain_follows rust.Loaded h t v k = absurd (h.loaded refl)
plain_follows rust.Checked h t v k = absurd (h.checked refl)
plain_follows rust.Argument h t v k = k
plain_follows rust.ArgumentWord h t v k = k
plain_follows rust.Address h t v k = k
plain_follows rust.Same h t v k = k
plain_follows rust.Computed h t v k = k

pub plain_settled : (o : Origin) → IsPlain o → (numbers : List ℕ) (place n : ℕ) → slice_set numbers place n ≡ settled (seen_origin o) numbers place n
plain_settled rust.Phi h numbers place n = absurd (h.phi refl)
plain_settled rust.Result h numbers place n = absurd (h.result refl)
plain_settled rust.Loaded h numbers place n = refl
plain_settled rust.Checked h numbers place n = refl
plain_settled rust.Argument h numbers place n = refl
plain_settled rust.ArgumentWord h numbers place n = refl
plain_settled rust.Address h numbers place n = refl
plain_settled rust.Same h numbers place n = refl
plain_settled rust.Computed h numbers place n = refl
