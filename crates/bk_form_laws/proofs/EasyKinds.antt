-- Control, Missing and Arity after a visit.
use Rattle.std.proofs.Common.{◌≡◌, ℕ, ◌+◌, ◌==◌, refl, ap, sym, subst, ◌∙◌, arith, ◌⊎◌, inl, inr, List, ◌++◌, Some, None, Option, cond, length}
use Rattle.std.specs.Prelude.{slice_set, sum_by, count_by, if◌then◌else◌, IfSome}
use Rattle.std.specs.List.{Contains, All}
use Rattle.std.proofs.lemmas.List.Elements.{All-weaker, All-contains_itself}
use Rattle.std.proofs.lemmas.List.Sums.{sum_by-append}
use Rattle.bk_ops.specs.declared.family.Family.{Family}
use Rattle.bk_ops.specs.declared.family.Family.TheVariants as op
use Rattle.bk_func.specs.Records.{ValueRecord, BlockRecord, FuncRecord}
use Rattle.bk_func.specs.declared.form.FormKind.TheVariants.{Control, Missing, Arity}
use Rattle.bk_func.specs.Form.{Keeps}
use Rattle.bk_func.specs.Form.Text.{HasBlock, HasValue, IsEntry}
use Rattle.bk_func.specs.Form.Signatures.{Setting}
use Rattle.bk_func.specs.Form.Parts.{FitsKind, edges_out, edges_in, KeepsControl, IsBlockNumber, IsValueNumber, NamesInBlock, NamesInValue, symbol_of, FitsSymbol, Symbol, nothing, function, variable, argument, HasArity}
use Rattle.bk_func.specs.declared.parts.Aux.{Aux}
use Rattle.bk_func.specs.declared.parts.Aux.TheVariants as beside
use Rattle.bk_func.proofs.Faults.{In}
use Rattle.bk_refine_laws.specs.Visits.{edited}
use Rattle.bk_form_laws.specs.Visits.{visited, Visit, IsNew}
use Rattle.bk_form_laws.specs.Fits.{NamesOne, NewNames}
use Rattle.bk_places.proofs.Elements.{to_in, to_contains}
use Rattle.bk_mean.proofs.Named.{is_named}
use Rattle.bk_form_laws.proofs.Lists.{sum_set, sum_zero, set_front, none_counted}
use Rattle.bk_form_laws.proofs.Pairs.{Shape, Pair, Turned, partner, in_old, shape, entry_back}
use Rattle.bk_form_laws.proofs.Turning.{turned, back, each_value, old_here}

-- what is said of each block of f by what a visit keeps of it
pub each_block : (f : FuncRecord) (b k : ℕ) (x : BlockRecord) (v root : ValueRecord) (made : List ValueRecord) → Visit f b k x v root made → (P : BlockRecord → Type 0) →
    ((c d : BlockRecord) → Pair f (visited f b k x root made) x (edited x k root made) c d → P d) → (d : BlockRecord) → HasBlock (visited f b k x root made) d → P d
each_block f b k x v root made t P h d i =
    let (c, p) = partner (visited f b k x root made) f (edited x k root made) x (back f b k x v root made t) d i in
    h c d (record { place = p.place; old = p.new; new = p.old; same = (elim p.same as (λ _. (c ≡ d) ⊎ ((c ≡ x) × (d ≡ edited x k root made))) [ inl e ↦ inl (sym e) | inr e ↦ inr (e.1, e.0) ]) })

-- ---- Control
same_sum : (h : BlockRecord → ℕ) (f : FuncRecord) (b k : ℕ) (x : BlockRecord) (v root : ValueRecord) (made : List ValueRecord) → Visit f b k x v root made → h x ≡ h (edited x k root made) →
    sum_by h (visited f b k x root made).blocks ≡ sum_by h f.blocks
same_sum h f b k x v root made t e = (let r = sum_set h f.blocks b x (edited x k root made) t.there in omega (arith, r, e))

out_same : (f : FuncRecord) (b k : ℕ) (x : BlockRecord) (v root : ValueRecord) (made : List ValueRecord) → Visit f b k x v root made → (a n : ℕ) → edges_out (visited f b k x root made) a n ≡ edges_out f a n
out_same f b k x v root made t a n = same_sum (λ b. if b.id == a then count_by (λ s. s == n) b.succs else 0) f b k x v root made t refl

in_same : (f : FuncRecord) (b k : ℕ) (x : BlockRecord) (v root : ValueRecord) (made : List ValueRecord) → Visit f b k x v root made → (a n : ℕ) → edges_in (visited f b k x root made) a n ≡ edges_in f a n
in_same f b k x v root made t a n = same_sum (λ b. if b.id == n then count_by (λ p. p == a) b.preds else 0) f b k x v root made t refl

control_here : (f g : FuncRecord) (c d : BlockRecord) → Shape c d → ((a n : ℕ) → edges_out g a n ≡ edges_out f a n) → ((a n : ℕ) → edges_in g a n ≡ edges_in f a n) → (IsEntry g d → IsEntry f c) →
    KeepsControl f c → KeepsControl g d
control_here f g c d s o i e h = record {
  kind = subst (λ q. FitsKind q d.succs d.control) s.kind (subst (λ ss. FitsKind c.kind ss d.control) s.succs (subst (λ o. FitsKind c.kind c.succs o) s.control h.kind));
  entry = λ q. sym s.preds ∙ h.entry (e q);
  out = λ n. o d.id n ∙ (ap (λ a. edges_out f a n) (sym s.id) ∙ (h.out n ∙ ap (λ a. edges_in f a n) s.id)) ∙ sym (i d.id n);
  into = λ n. o n d.id ∙ (ap (λ a. edges_out f n a) (sym s.id) ∙ (h.into n ∙ ap (λ a. edges_in f n a) s.id)) ∙ sym (i n d.id);
}

-- A visit keeps Control, of any function whose numbers name one thing each.
pub control_kept : (s : Setting) (f : FuncRecord) (b k : ℕ) (x : BlockRecord) (v root : ValueRecord) (made : List ValueRecord) → Keeps s f Missing → Visit f b k x v root made →
    Keeps s f Control → Keeps s (visited f b k x root made) Control
control_kept s f b k x v root made m t h d i =
    let g : FuncRecord = visited f b k x root made in
    let y : BlockRecord = edited x k root made in
    let q : Turned f g x y = turned f b k x v root made (is_named s f m) t in record {
      block = each_block f b k x v root made t (KeepsControl g) (λ c d p. control_here f g c d (shape f g x y c d q.shape p) (out_same f b k x v root made t) (in_same f b k x v root made t)
          (entry_back f g x y q c d p) (h c (in_old f g x y c d p)).block) d i;
      value = λ w j. tt;
    }

-- ---- Missing
abbrev bearing : ℕ → BlockRecord → ℕ
bearing n b = count_by (λ v. v.id == n) b.values

abbrev borne_by : FuncRecord → ℕ → ℕ
borne_by f n = sum_by (bearing n) f.blocks

-- a number is borne as often as before, and as often as among the values that are made
borne_after : (f : FuncRecord) (b k : ℕ) (x : BlockRecord) (v root : ValueRecord) (made : List ValueRecord) → Visit f b k x v root made → (n : ℕ) →
    borne_by (visited f b k x root made) n ≡ borne_by f n + count_by (λ u. u.id == n) made
borne_after f b k x v root made t n =
    let tally : ValueRecord → ℕ = λ u. cond (u.id == n) 1 0 in
    let r = sum_set (bearing n) f.blocks b x (edited x k root made) t.there in
    let q = sum_set tally x.values k v root t.stands in
    let e : tally root ≡ tally v = ap (λ i. cond (i == n) 1 0) t.same in
    let a : bearing n (edited x k root made) ≡ count_by (λ u. u.id == n) (slice_set x.values k root ++ made) = ap (λ vs. count_by (λ u. u.id == n) vs) (set_front x.values made k v root t.stands) in
    let c : sum_by tally (slice_set x.values k root ++ made) ≡ sum_by tally (slice_set x.values k root) + sum_by tally made = sum_by-append tally (slice_set x.values k root) made in
    omega (arith, r, q, e, a, c)

none_borne : (f : FuncRecord) (n : ℕ) → ((c : BlockRecord) (u : ValueRecord) → HasValue f c u → ¬ (u.id ≡ n)) → borne_by f n ≡ 0
none_borne f n h = sum_zero (bearing n) f.blocks (λ c i. none_counted c.values n (λ u j. h c u (to_contains c f.blocks i, to_contains u c.values j)))

old_number : (f : FuncRecord) (b k : ℕ) (x : BlockRecord) (v root : ValueRecord) (made : List ValueRecord) → Visit f b k x v root made → (n : ℕ) → IsValueNumber f n →
    IsValueNumber (visited f b k x root made) n
unfolding IsValueNumber
old_number f b k x v root made t n h =
    let r = borne_after f b k x v root made t n in
    let z : count_by (λ u. u.id == n) made ≡ 0 = none_counted made n (λ u i e. (let q = none_borne f n (λ c w j d. t.fresh u i c w j (d ∙ sym e)) in absurd (omega (arith, q, h)))) in
    omega (arith, r, z, h)

new_number : (f : FuncRecord) (b k : ℕ) (x : BlockRecord) (v root : ValueRecord) (made : List ValueRecord) → Visit f b k x v root made → (w : ValueRecord) → In w made →
    IsValueNumber (visited f b k x root made) w.id
unfolding IsValueNumber
new_number f b k x v root made t w i =
    let r = borne_after f b k x v root made t w.id in
    let z = none_borne f w.id (λ c u j. t.fresh w i c u j) in
    let d = t.distinct w i in
    omega (arith, r, z, d)

pub number_after : (f : FuncRecord) (b k : ℕ) (x : BlockRecord) (v root : ValueRecord) (made : List ValueRecord) → Visit f b k x v root made → (n : ℕ) → NamesOne f made n →
    IsValueNumber (visited f b k x root made) n
number_after f b k x v root made t n (inl h) = old_number f b k x v root made t n h
number_after f b k x v root made t n (inr (u, i, e)) = subst (λ m. IsValueNumber (visited f b k x root made) m) e (new_number f b k x v root made t u i)

block_number : (f : FuncRecord) (b k : ℕ) (x : BlockRecord) (v root : ValueRecord) (made : List ValueRecord) → Visit f b k x v root made → (n : ℕ) → IsBlockNumber f n →
    IsBlockNumber (visited f b k x root made) n
unfolding IsBlockNumber
block_number f b k x v root made t n h = same_sum (λ b. cond (b.id == n) 1 0) f b k x v root made t refl ∙ h

-- what stands beside a value is asked for by the signature alone
symbol_over : (s : Setting) (f : FuncRecord) (bs : List BlockRecord) (o : Symbol) (a : Aux) → FitsSymbol s f o a → FitsSymbol s (record f { blocks = bs }) o a
symbol_over s f bs nothing beside.Nothing h = h
symbol_over s f bs nothing (beside.Ty x) h = h
symbol_over s f bs nothing (beside.Sym n) h = h
symbol_over s f bs nothing (beside.Arg n) h = h
symbol_over s f bs function beside.Nothing h = h
symbol_over s f bs function (beside.Ty x) h = h
symbol_over s f bs function (beside.Sym n) h = h
symbol_over s f bs function (beside.Arg n) h = h
symbol_over s f bs variable beside.Nothing h = h
symbol_over s f bs variable (beside.Ty x) h = h
symbol_over s f bs variable (beside.Sym n) h = h
symbol_over s f bs variable (beside.Arg n) h = h
symbol_over s f bs argument beside.Nothing h = h
symbol_over s f bs argument (beside.Ty x) h = h
symbol_over s f bs argument (beside.Sym n) h = h
symbol_over s f bs argument (beside.Arg n) h = h

all_in : {A : Type 0} (P : A → Type 0) (xs : List A) → ((x : A) → In x xs → P x) → All P xs
all_in P xs h = All-weaker (Contains xs) P (λ x c. h x (to_in x xs c)) xs (All-contains_itself xs)

some_over : (P Q : ℕ → Type 0) → ((n : ℕ) → P n → Q n) → (o : Option ℕ) → IfSome o P → IfSome o Q
some_over P Q h None k = k
some_over P Q h (Some n) k = h n k

-- A visit keeps Missing, where the new values name values.
pub missing_kept : (s : Setting) (f : FuncRecord) (b k : ℕ) (x : BlockRecord) (v root : ValueRecord) (made : List ValueRecord) → Visit f b k x v root made →
    ((w : ValueRecord) → IsNew root made w → NewNames s f made w) → Keeps s f Missing → Keeps s (visited f b k x root made) Missing
missing_kept s f b k x v root made t new m d i = record {
  block = each_block f b k x v root made t (NamesInBlock g) block d i;
  value = λ w j. each_value s f b k x v root made m t (λ d w. NamesInValue s g w) new_one old_one d w (i, j);
}
  where
    g : FuncRecord
    g = visited f b k x root made

    y : BlockRecord
    y = edited x k root made

    block : (c d : BlockRecord) → Pair f (visited f b k x root made) x (edited x k root made) c d → NamesInBlock (visited f b k x root made) d
    block c d p =
        let q = shape f (visited f b k x root made) x (edited x k root made) c d (turned f b k x v root made (is_named s f m) t).shape p in
        let h = (m c (in_old f (visited f b k x root made) x (edited x k root made) c d p)).block in record {
          own = subst (λ n. IsBlockNumber (visited f b k x root made) n) q.id (block_number f b k x v root made t c.id h.own);
          preds = subst (λ ns. All (IsBlockNumber (visited f b k x root made)) ns) q.preds (All-weaker (IsBlockNumber f) (IsBlockNumber (visited f b k x root made)) (block_number f b k x v root made t) c.preds h.preds);
          succs = subst (λ ns. All (IsBlockNumber (visited f b k x root made)) ns) q.succs (All-weaker (IsBlockNumber f) (IsBlockNumber (visited f b k x root made)) (block_number f b k x v root made t) c.succs h.succs);
          control = subst (λ o. IfSome o (IsValueNumber (visited f b k x root made))) q.control (some_over (IsValueNumber f) (IsValueNumber (visited f b k x root made)) (old_number f b k x v root made t) c.control h.control);
        }

    new_one : (w : ValueRecord) → IsNew root made w → NamesInValue s (visited f b k x root made) w
    new_one w n = record {
      own = own n;
      args = all_in (IsValueNumber (visited f b k x root made)) w.args (λ a j. number_after f b k x v root made t a ((new w n).args a j));
      symbol = symbol_over s f (visited f b k x root made).blocks (symbol_of w.op.family) w.aux (new w n).symbol;
    }
      where
        own : IsNew root made w → IsValueNumber (visited f b k x root made) w.id
        own (inl e) = subst (λ a. IsValueNumber (visited f b k x root made) a) (sym t.same ∙ ap (λ (u : ValueRecord). u.id) e)
            (old_number f b k x v root made t v.id ((m x (old_here f b k x v root made t).0).value v (old_here f b k x v root made t).1).own)
        own (inr j) = new_number f b k x v root made t w j

    old_one : (c d : BlockRecord) (u : ValueRecord) → Pair f (visited f b k x root made) x (edited x k root made) c d → HasValue f c u → ¬ (u.id ≡ v.id) → NamesInValue s (visited f b k x root made) u
    old_one c d u p h a =
        let q = (m c h.0).value u h.1 in record {
          own = old_number f b k x v root made t u.id q.own;
          args = All-weaker (IsValueNumber f) (IsValueNumber (visited f b k x root made)) (old_number f b k x v root made t) u.args q.args;
          symbol = symbol_over s f (visited f b k x root made).blocks (symbol_of u.op.family) u.aux q.symbol;
        }

-- ---- Arity
arity_over : (s : Setting) (f : FuncRecord) (bs : List BlockRecord) (c d : BlockRecord) (v : ValueRecord) (o : Family) → c.preds ≡ d.preds → HasArity s f c v o → HasArity s (record f { blocks = bs }) d v o
unfolding HasArity
arity_over s f bs c d v op.Phi e h = (h.0 ∙ ap length e, h.1)
arity_over s f bs c d v op.MakeResult e h = h
arity_over s f bs c d v op.StaticLECall e h = h
arity_over s f bs c d v _ e h = h

-- A visit keeps Arity, where the new values have as many arguments as their ops take.
pub arity_kept : (s : Setting) (f : FuncRecord) (b k : ℕ) (x : BlockRecord) (v root : ValueRecord) (made : List ValueRecord) → Visit f b k x v root made → Keeps s f Missing →
    ((w : ValueRecord) → IsNew root made w → HasArity s f x w w.op.family) → Keeps s f Arity → Keeps s (visited f b k x root made) Arity
arity_kept s f b k x v root made t m new h d i = record {
  block = tt;
  value = λ w j. each_value s f b k x v root made m t (λ d w. HasArity s (visited f b k x root made) d w w.op.family)
      (λ w n. arity_over s f (visited f b k x root made).blocks x (edited x k root made) w w.op.family refl (new w n))
      (λ c d u p q a. arity_over s f (visited f b k x root made).blocks c d u u.op.family
      (shape f (visited f b k x root made) x (edited x k root made) c d (turned f b k x v root made (is_named s f m) t).shape p).preds ((h c q.0).value u q.1)) d w (i, j);
}
