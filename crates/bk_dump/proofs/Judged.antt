-- What the reader answers, from what the text reads as and from the form of its functions.
use Rattle.std.proofs.Common.{◌≡◌, ℕ, ◌+◌, ◌<◌, List, [], ◌∷◌, ◌++◌, length, take, drop, ap, ◌∙◌, sym, subst, ⊎_elim, get_or}
use Rattle.std.specs.Prelude.{Result, Ok, Err, All, slice_index_or, string_bytes}
use Rattle.std.specs.Result.{IsErrAnd}
use Rattle.std.proofs.lemmas.List.{take-append-drop, drop_more, take_more}
use Rattle.std.proofs.lemmas.List.Elements.{All-push}
use Rattle.bk_ops.specs.declared.types.Target.{Target}
use Rattle.bk_func.specs.declared.form.FormKind.{FormKind}
use Rattle.bk_func.specs.declared.form.Place.{Place}
use Rattle.bk_func.specs.Records.{FuncRecord, PackageRecord}
use Rattle.bk_func.specs.Form.{IsFault}
use Rattle.bk_form.specs.declared.FormError.{FormError}
use Rattle.bk_form.specs.declared.FormError.TheVariants.{FormFault, Memory as NoMemory}
use Rattle.bk_form.specs.Judged.{IsRefusal}
use Rattle.bk_dump.specs.declared.read.errors.DumpError.{DumpError}
use Rattle.bk_dump.specs.declared.read.errors.DumpError.TheVariants as dump_error
use Rattle.bk_dump.specs.Texts.{Refusal}
use Rattle.bk_dump.specs.Views.{Refused, IsFormed, Blames, Blame, BlamesForm, IsReading}

-- a text that is refused
pub is_refused : (t : Target) (e : DumpError) (read : Result PackageRecord Refusal) → Refused e read → IsReading t (Err e) read
is_refused t (dump_error.Syntax line) read h = ⊎_elim (λ m. absurd (cc)) (λ r. r.1 ∙ ap Err r.2) h
is_refused t (dump_error.Limit which line) read h = ⊎_elim (λ m. absurd (cc)) (λ r. r.1 ∙ ap Err r.2) h
is_refused t (dump_error.Duplicate line) read h = ⊎_elim (λ m. absurd (cc)) (λ r. r.1 ∙ ap Err r.2) h
is_refused t (dump_error.Undefined name) read h = ⊎_elim (λ m. absurd (cc)) (λ r. r.1 ∙ ap Err r.2) h
is_refused t (dump_error.FormFault func kind place) read h = ⊎_elim (λ m. absurd (cc)) (λ r. absurd r.2) h
is_refused t dump_error.Memory read h = tt

-- a package of which a function is not in form
pub is_blamed : (t : Target) (e : DumpError) (p : PackageRecord) (read : Result PackageRecord Refusal) → read ≡ Ok p → BlamesForm p t e → IsReading t (Err e) read
is_blamed t (dump_error.FormFault func kind place) p read h b = (p, h, b)
is_blamed t dump_error.Memory p read h b = tt
is_blamed t (dump_error.Syntax line) p read h b = absurd b
is_blamed t (dump_error.Limit which line) p read h b = absurd b
is_blamed t (dump_error.Duplicate line) p read h b = absurd b
is_blamed t (dump_error.Undefined name) p read h b = absurd b

-- functions that are gone through, one further at a time

pub formed_more : (p : PackageRecord) (t : Target) (i : ℕ) (f d : FuncRecord) → i < length p.funcs → f ≡ get_or p.funcs i d → All (IsFormed p t) (take i p.funcs) → IsFormed p t f → All (IsFormed p t) (take (i + 1) p.funcs)
formed_more p t i f d l e h g =
    subst (All (IsFormed p t)) (sym (take_more p.funcs i d l ∙ ap (λ x. take i p.funcs ++ x ∷ []) (sym e))) (All-push (IsFormed p t) (take i p.funcs) f h g)

-- the function at this place is refused, and those before it are in form
blames : (p : PackageRecord) (t : Target) (i : ℕ) (f d : FuncRecord) (name : List ℕ) (kind : FormKind) (place : Place) → i < length p.funcs → f ≡ get_or p.funcs i d → All (IsFormed p t) (take i p.funcs)
    → IsFault p f t kind place → name ≡ slice_index_or p.names f.name [] → Blames p t name kind place
blames p t i f d name kind place l e formed refused named = record {
  front = take i p.funcs;
  func = f;
  more = drop (i + 1) p.funcs;
  whole = sym (take-append-drop i p.funcs) ∙ ap (λ fs. take i p.funcs ++ fs) (drop_more p.funcs i d l ∙ ap (λ x. x ∷ drop (i + 1) p.funcs) (sym e));
  formed = formed;
  refused = refused;
  named = named;
}

pub blamed : (error : FormError) (e : DumpError) (p : PackageRecord) (t : Target) (i : ℕ) (f d : FuncRecord) → i < length p.funcs → f ≡ get_or p.funcs i d → All (IsFormed p t) (take i p.funcs)
    → IsRefusal p f t error → Blame p f error e → BlamesForm p t e
blamed (FormFault kind place) (dump_error.FormFault func k at) p t i f d l s formed refused b =
    blames p t i f d (string_bytes func) k at l s formed (subst (λ x. IsFault p f t x at) (sym b.1) (subst (λ x. IsFault p f t kind x) (sym b.2) refused)) b.0
blamed (FormFault kind place) dump_error.Memory p t i f d l s formed refused b = tt
blamed (FormFault kind place) (dump_error.Syntax line) p t i f d l s formed refused b = absurd b
blamed (FormFault kind place) (dump_error.Limit which line) p t i f d l s formed refused b = absurd b
blamed (FormFault kind place) (dump_error.Duplicate line) p t i f d l s formed refused b = absurd b
blamed (FormFault kind place) (dump_error.Undefined name) p t i f d l s formed refused b = absurd b
blamed NoMemory e p t i f d l s formed refused b = subst (BlamesForm p t) (sym b) tt

-- a call that an inner call's error ends
pub reading_failed : (t : Target) (r : Result PackageRecord DumpError) (e : DumpError) (read : Result PackageRecord Refusal) → IsErrAnd r (λ f. f ≡ e) → IsReading t (Err e) read → IsReading t r read
reading_failed t (Ok p) e read h f = absurd h
reading_failed t (Err d) e read h f = subst (λ d. IsReading t (Err d) read) (sym h) f
