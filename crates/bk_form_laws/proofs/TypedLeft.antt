-- A left tree that stands at a value of a function in form fits the rows of its ops.
use Rattle.std.proofs.Common.{◌≡◌, ℕ, zero, suc, ◌+◌, refl, ap, sym, subst, ◌∙◌, arith, inl, inr, List, [], ◌∷◌, Some, None, Option, Bool, true, false, drop}
use Rattle.std.specs.Prelude.{slice_get, if◌then◌else◌, MatchBool}
use Rattle.bk_ops.specs.Table.{info_of, is_op, row, entry, arm_row, rv_row, unknown}
use Rattle.bk_ops.specs.Types.{width_of}
use Rattle.bk_ops.specs.declared.table.Op.{Op}
use Rattle.bk_ops.specs.declared.table.Class.{Class}
use Rattle.bk_ops.specs.declared.table.Class.TheVariants.{Number, Word, Bool as Truth, Mem as State, Void as Nothing, Tuple as Results, ByType}
use Rattle.bk_ops.specs.declared.types.Ty.{Ty as Types}
use Rattle.bk_ops.specs.declared.types.Ty.TheVariants.{Void}
use Rattle.bk_ops.specs.declared.family.Family.{Family}
use Rattle.bk_ops.specs.declared.family.Family.TheVariants as op
use Rattle.bk_ops.specs.declared.family.ArmOp.TheVariants as arm
use Rattle.bk_ops.specs.declared.family.RvOp.TheVariants as rv
use Rattle.bk_func.specs.declared.parts.Aux.{Aux}
use Rattle.bk_func.specs.declared.parts.Aux.TheVariants as beside
use Rattle.bk_func.specs.Records.{ValueRecord, BlockRecord, FuncRecord}
use Rattle.bk_func.specs.Numbers.{value_of}
use Rattle.bk_func.specs.declared.form.FormKind.TheVariants.{Missing, Ty}
use Rattle.bk_func.specs.Form.{Keeps}
use Rattle.bk_func.specs.Form.Text.{HasValue}
use Rattle.bk_func.specs.Form.Signatures.{Setting}
use Rattle.bk_func.specs.Form.Parts.{IsValueNumber}
use Rattle.bk_func.specs.Form.Shapes.{IsData, FitsWord, Slot, bits, word, truth, memory, same, stored, base, call, argument, result, slot, FitsStored, FitsSlot, FitsPlace, GivesByType, GivesWord, Gives}
use Rattle.bk_func.proofs.Faults.{In}
use Rattle.bk_rule.specs.declared.trees.Bound.{Bound}
use Rattle.bk_rule.specs.declared.trees.Bound.TheVariants as bound
use Rattle.bk_rule.specs.declared.trees.Pattern.{Pattern, Row_of-Pattern, end_of-Pattern, more_of-Pattern}
use Rattle.bk_rule.specs.declared.trees.Pattern as pattern
use Rattle.bk_rule.specs.Bindings.{value_in, type_in, bound_env}
use Rattle.bk_rule.specs.Match.{NameMatches, TypeMatches, Matches, MatchesEach, ordered, swapped, is_commutative, first_is, order_of, orders}
use Rattle.bk_form_laws.specs.Fits.{is_special, IsThere}
use Rattle.bk_form_laws.specs.Rules.{IsPlain, ArePlain}
use Rattle.bk_form_laws.specs.Typed.{Seen, is_base, seen, Shows, HasResult, IsNamed, IsTyped, Fits, FitEach}
use Rattle.bk_places.proofs.Elements.{to_contains}
use Rattle.bk_mean.proofs.Named.{is_named, found_value}
use Rattle.bk_form_laws.proofs.Matched.{in_ordered}
use Rattle.bk_form_laws.proofs.Steps.{there}
use Rattle.std.proofs.lemmas.List.Elements.{All-contains}

abbrev pub seen_of : Option ValueRecord → Seen
seen_of None = record { ty = Void; base = false }
seen_of (Some u) = seen u

-- what the variables of values show
abbrev pub shows_in : FuncRecord → List Bound → ℕ → Seen
shows_in f bs i = seen_of (value_of f (value_in (slice_get bs i)))

-- a function with numbers and types in form
pub record Ground (s : Setting) (f : FuncRecord) : Type 0 where
  pub missing : Keeps s f Missing
  pub types : Keeps s f Ty

pub not_base : (o : Family) → ¬ (o ≡ op.Sb) → is_base o ≡ false
not_base op.Sb h = absurd (h refl)
not_base _ h = refl

-- ---- slots
shows_stored : (s : Setting) (a : Aux) (y : Types) → FitsStored s a y → IsData s y
shows_stored s beside.Nothing y h = elim h [ ]
shows_stored s (beside.Sym n) y h = elim h [ ]
shows_stored s (beside.Arg n) y h = elim h [ ]
shows_stored s (beside.Ty x) y h = go s.loose h.1
  where
    go : (l : Bool) → MatchBool l (IsData s y) (width_of y s.target ≡ width_of x s.target) → IsData s y
    go true k = k
    go false k = λ e. h.0 (sym k ∙ e)

shows_slot : (s : Setting) (f : FuncRecord) (v u : ValueRecord) → (z : Slot) → FitsSlot s f v u z → Shows s v.ty z (seen u)
shows_slot s f v u (bits n) h = (not_base u.op.family h.0, h.1)
shows_slot s f v u word h = (not_base u.op.family h.0, h.1)
shows_slot s f v u truth h = (not_base u.op.family h.0, h.1)
shows_slot s f v u memory h = h
shows_slot s f v u same (inl h) = inl h
shows_slot s f v u same (inr h) = inr (not_base u.op.family h.0, h.1)
shows_slot s f v u stored h = (not_base u.op.family h.0, shows_stored s v.aux u.ty h.1)
shows_slot s f v u base h = tt
shows_slot s f v u call h = tt
shows_slot s f v u argument h = tt
shows_slot s f v u result h = tt

plain_place : (s : Setting) (f : FuncRecord) (v u : ValueRecord) (o : Family) (i : ℕ) → is_special o ≡ false → FitsPlace s f v o i u → FitsSlot s f v u (slot v.op o i)
unfolding FitsPlace
plain_place s f v u op.StaticLECall i z h = absurd cc
plain_place s f v u op.MakeResult i z h = absurd cc
plain_place s f v u op.CallRegs i z h = absurd cc
plain_place s f v u op.RetRegs i z h = absurd cc
plain_place s f v u _ i z h = h

-- ---- results
no_list : (o : Family) (a b : ℕ) → is_special o ≡ false → ¬ ((row o a b).info.result ≡ Results)
unfolding row entry arm_row rv_row
no_list op.StaticLECall a b z e = absurd cc
no_list op.MakeResult a b z e = absurd cc
no_list (op.Arm arm.Add) a b z e = absurd cc
no_list (op.Arm _) a b z e = absurd cc
no_list (op.Rv rv.Add) a b z e = absurd cc
no_list (op.Rv _) a b z e = absurd cc
no_list _ a b z e = absurd cc

pub plain_result : (o : Op) → is_special o.family ≡ false → is_op o.family o.a o.b ≡ true → ¬ ((info_of o).result ≡ Results)
unfolding info_of
plain_result o z i e = no_list o.family o.a o.b z (ap (λ t. (if t then (row o.family o.a o.b).info else unknown).result) (sym i) ∙ e)

has_result : (s : Setting) (f : FuncRecord) (v : ValueRecord) → is_special v.op.family ≡ false → ¬ (v.op.family ≡ op.Copy) → (c : Class) → ¬ (c ≡ Results) → Gives s f v c → HasResult s c v.ty
unfolding GivesWord GivesByType
has_result s f v z q (Number n) k h = h
has_result s f v z q Word k h = go v.op.family z h
  where
    go : (o : Family) → is_special o ≡ false → GivesWord s f v o → FitsWord s v.ty
    go op.ArgWord z h = absurd cc
    go op.ResWord z h = absurd cc
    go op.ArgReg z h = absurd cc
    go op.ResReg z h = absurd cc
    go _ z h = h
has_result s f v z q Truth k h = h
has_result s f v z q State k h = h
has_result s f v z q Nothing k h = h
has_result s f v z q Results k h = absurd (k refl)
has_result s f v z q ByType k h = go v.op.family z q h
  where
    go : (o : Family) → is_special o ≡ false → ¬ (o ≡ op.Copy) → GivesByType s f v o → IsData s v.ty
    go op.Phi z q h = absurd cc
    go op.Arg z q h = absurd cc
    go op.SelectN z q h = absurd cc
    go op.Copy z q h = absurd (q refl)
    go _ z q h = h

zero_plus : (j : ℕ) → j ≡ 0 + j
zero_plus j = omega arith

plus_zero : (j : ℕ) → j + 0 ≡ j
plus_zero j = omega arith

plus_suc : (k j : ℕ) → k + suc j ≡ suc k + j
plus_suc k j = omega arith

-- ---- commutative ops take one thing at both places
commutes : (o : Op) (f : Family) (a b : ℕ) → (info_of o).memory ≡ (row f a b).info.memory → (row f a b).info.commutative ≡ true → slot o f 0 ≡ slot o f 1
unfolding row entry arm_row rv_row slot
commutes o op.Add a b k e = refl
commutes o op.Mul a b k e = refl
commutes o op.And a b k e = refl
commutes o op.Or a b k e = refl
commutes o op.Xor a b k e = refl
commutes o op.Hmul a b k e = refl
commutes o op.Hmulu a b k e = refl
commutes o op.Eq a b k e = refl
commutes o op.Neq a b k e = refl
commutes o op.AndB a b k e = refl
commutes o op.OrB a b k e = refl
commutes o (op.Arm arm.Add) a b k e = rw k refl
commutes o (op.Arm arm.And) a b k e = rw k refl
commutes o (op.Arm arm.Orr) a b k e = rw k refl
commutes o (op.Arm arm.Eor) a b k e = rw k refl
commutes o (op.Arm _) a b k e = absurd cc
commutes o (op.Rv rv.Add) a b k e = rw k refl
commutes o (op.Rv rv.And) a b k e = rw k refl
commutes o (op.Rv rv.Or) a b k e = rw k refl
commutes o (op.Rv rv.Xor) a b k e = rw k refl
commutes o (op.Rv _) a b k e = absurd cc
commutes o _ a b k e = absurd cc

-- ops that are no op are not commutative
same_slots : (o : Op) → is_commutative o ≡ true → slot o o.family 0 ≡ slot o o.family 1
unfolding info_of
same_slots o e = go (is_op o.family o.a o.b) refl e
  where
    go : (t : Bool) → is_op o.family o.a o.b ≡ t → (if t then (row o.family o.a o.b).info else unknown).commutative ≡ true → slot o o.family 0 ≡ slot o o.family 1
    go true i h = commutes o o.family o.a o.b (ap (λ t. (if t then (row o.family o.a o.b).info else unknown).memory) i) h
    go false i h = absurd cc

-- ---- rows
-- each argument of a list shows what its place takes
abbrev ShowsEach : Setting → FuncRecord → Op → Types → ℕ → List ℕ → Type 0
ShowsEach s f o y k ids = (j n : ℕ) → slice_get ids j ≡ Some n → (c : BlockRecord) (u : ValueRecord) → HasValue f c u → u.id ≡ n → Shows s y (slot o o.family (k + j)) (seen u)

swapped_shows : (s : Setting) (f : FuncRecord) (o : Op) (y : Types) (ids : List ℕ) → slot o o.family 0 ≡ slot o o.family 1 → ShowsEach s f o y 0 ids → ShowsEach s f o y 0 (swapped ids)
swapped_shows s f o y [] e h j n q c u i d = h j n q c u i d
swapped_shows s f o y (a ∷ []) e h j n q c u i d = h j n q c u i d
swapped_shows s f o y (a ∷ b ∷ z ∷ ids) e h j n q c u i d = h j n q c u i d
swapped_shows s f o y (a ∷ b ∷ []) e h zero n q c u i d = (let P : Slot → Type 0 = λ z. Shows s y z (seen u) in subst P (sym e) (h 1 n q c u i d))
swapped_shows s f o y (a ∷ b ∷ []) e h (suc zero) n q c u i d = (let P : Slot → Type 0 = λ z. Shows s y z (seen u) in subst P e (h 0 n q c u i d))
swapped_shows s f o y (a ∷ b ∷ []) e h (suc (suc j)) n q c u i d = absurd (let z : None ≡ Some n = q in cc)

ordered_shows : (s : Setting) (f : FuncRecord) (o : Op) (y : Types) (cs : List Bool) (ids : List ℕ) → ShowsEach s f o y 0 ids → ShowsEach s f o y 0 (ordered o cs ids)
ordered_shows s f o y cs ids h = go (is_commutative o) refl (first_is cs)
  where
    go : (t : Bool) → is_commutative o ≡ t → (d : Bool) → ShowsEach s f o y 0 (if t then (if d then swapped ids else ids) else ids)
    go true e true = swapped_shows s f o y ids (same_slots o e) h
    go true e false = h
    go false e d = h

value_shows : (s : Setting) (f : FuncRecord) (g : Ground s f) (bs : List Bound) (i : ℕ) (id : ℕ) (c : BlockRecord) (u : ValueRecord) → HasValue f c u → u.id ≡ id → slice_get bs i ≡ Some (bound.Value id) → shows_in f bs i ≡ seen u
value_shows s f g bs i id c u h e b = ap (λ o. seen_of (value_of f (value_in o))) b ∙ ap seen_of (found_value f (is_named s f g.missing) c u id h e)

mutual
  -- the tree fits where it stands
  fits_at : (p : Pattern) (s : Setting) (f : FuncRecord) (g : Ground s f) (bs : List Bound) (id : ℕ) (cs : List Bool) → IsPlain p → Matches f bs p id cs → (c : BlockRecord) (u : ValueRecord) → HasValue f c u → u.id ≡ id →
      Fits s (bound_env f bs) (shows_in f bs) p (seen u)
  fits_at pattern.Any s f g bs id cs p m c u h e = tt
  fits_at (pattern.Var i) s f g bs id cs p m c u h e = value_shows s f g bs i id c u h e m
  fits_at (pattern.Node' name o ty int x shape ps) s f g bs id cs (p, ps2) (a, (v, e1, d, y, z, q, ms)) c u h e =
      let w : v ≡ u = (let r : Some v ≡ Some u = sym e1 ∙ found_value f (is_named s f g.missing) c u id h e in cc) in
      let d2 : u.op ≡ o = ap (λ (y : ValueRecord). y.op) (sym w) ∙ d in
      let t = (g.types c h.0).value u h.1 in
      let plain : is_special u.op.family ≡ false = ap (λ (y : Op). is_special y.family) d2 ∙ p.family in
      let copy : ¬ (u.op.family ≡ op.Copy) = λ k. p.copy (ap (λ (y : Op). y.family) (sym d2) ∙ k) in
      let places : ShowsEach s f o u.ty 0 u.args = λ j n k c2 u2 h2 k2. (let P : Op → Type 0 = λ y. Shows s u.ty (slot y y.family j) (seen u2) in
      subst (λ (i : ℕ). Shows s u.ty (slot o o.family i) (seen u2)) (zero_plus j)
      (subst P d2 (shows_slot s f u u2 (slot u.op u.op.family j) (plain_place s f u u2 u.op.family j plain (t.args j c2 u2 h2 (k ∙ ap Some (sym k2))))))) in
      let args : v.args ≡ u.args = ap (λ (y : ValueRecord). y.args) w in (
        named name a,
        typed ty (ap (λ (y : ValueRecord). y.ty) w) y,
        ap (λ (y : Op). is_base y.family) d2,
        (let P : Op → Type 0 = λ y. HasResult s (info_of y).result u.ty in subst P d2 (has_result s f u plain copy (info_of u.op).result (plain_result u.op plain t.op) t.result)),
        fit_each ps s f g bs o u.ty 0 (ordered o cs u.args) (drop (order_of o) cs) ps2 (subst (λ xs. MatchesEach f bs ps (ordered o cs xs) (drop (order_of o) cs)) args ms)
            (ordered_shows s f o u.ty cs u.args places)
            (λ n i. there f n (All-contains (IsValueNumber f) u.args n ((g.missing c h.0).value u h.1).args (to_contains n u.args (in_ordered o cs u.args n i)))),
      )
    where
      named : (n : Option ℕ) → NameMatches bs n id → IsNamed (shows_in f bs) n (seen u)
      named None a = tt
      named (Some i) a = value_shows s f g bs i id c u h e a

      typed : (n : Option ℕ) → v.ty ≡ u.ty → TypeMatches bs n v.ty → IsTyped (bound_env f bs) n u.ty
      typed None w a = tt
      typed (Some i) w a = ap type_in a ∙ w

  fit_each : {m : _} (ps : Row_of-Pattern m) (s : Setting) (f : FuncRecord) (g : Ground s f) (bs : List Bound) (o : Op) (y : Types) (k : ℕ) (ids : List ℕ) (cs : List Bool) → ArePlain ps → MatchesEach f bs ps ids cs →
      ShowsEach s f o y k ids → ((n : ℕ) → In n ids → IsThere f n) → FitEach s (bound_env f bs) (shows_in f bs) o y k ps
  fit_each end_of-Pattern s f g bs o y k ids cs p m h t = tt
  fit_each (more_of-Pattern p ps) s f g bs o y k [] cs q m h t = elim m [ ]
  fit_each (more_of-Pattern p ps) s f g bs o y k (n ∷ ids) cs (q, qs) (m, ms) h t =
      let (c, u, i, e) = t n (inl refl) in (
        (seen u, subst (λ (j : ℕ). Shows s y (slot o o.family j) (seen u)) (plus_zero k) (h 0 n refl c u i e), fits_at p s f g bs n cs q m c u i e),
        fit_each ps s f g bs o y (suc k) ids (drop (orders p) cs) qs ms
            (λ j n2 e2 c2 u2 i2 d2. subst (λ (l : ℕ). Shows s y (slot o o.family l) (seen u2)) (plus_suc k j) (h (suc j) n2 e2 c2 u2 i2 d2))
            (λ n2 i2. t n2 (inr i2)),
      )

-- the left tree fits where it stands
pub left_fits : (p : Pattern) (s : Setting) (f : FuncRecord) (g : Ground s f) (bs : List Bound) (id : ℕ) (cs : List Bool) → IsPlain p → Matches f bs p id cs → (c : BlockRecord) (u : ValueRecord) → HasValue f c u → u.id ≡ id →
    Fits s (bound_env f bs) (shows_in f bs) p (seen u)
left_fits p s f g bs id cs q m c u h e = fits_at p s f g bs id cs q m c u h e
