-- What holds of every number that a left tree over machine words can have holds of the numbers of the values where it stands.
use Rattle.std.proofs.Common.{◌≡◌, ℕ, ◌<◌, arith, ◌^◌, ◌%◌, refl, ap, subst, sym, ◌∙◌, List, [], ◌∷◌, map, drop, Option, Some, None, Bool, true, false, inl, inr, ℤ}
use Rattle.std.specs.Prelude.{if◌then◌else◌}
use Rattle.bk_ops.specs.declared.types.Target.{Target}
use Rattle.bk_ops.specs.declared.types.Ty.{Ty}
use Rattle.bk_ops.specs.declared.table.Op.{Op}
use Rattle.bk_ops.specs.declared.family.Family.{Family}
use Rattle.bk_ops.specs.declared.family.Family.TheVariants as op
use Rattle.bk_ops.specs.Table.{row}
use Rattle.bk_ops.specs.Values.{op_value}
use Rattle.bk_func.specs.declared.parts.Aux.{Aux}
use Rattle.bk_func.specs.declared.parts.Aux.TheVariants as beside
use Rattle.bk_func.specs.Records.{ValueRecord, FuncRecord}
use Rattle.bk_func.specs.Numbers.{Program, Env as Numbers, Origin, phi, argument, argument_word, result, address, loaded, checked, same, computed, origin_of, value_of, address_of}
use Rattle.bk_rule.specs.declared.trees.Bound.{Bound}
use Rattle.bk_rule.specs.declared.trees.IntPart.{IntPart}
use Rattle.bk_rule.specs.declared.trees.IntPart.TheVariants as part
use Rattle.bk_rule.specs.declared.trees.Pattern.{Pattern, Row_of-Pattern, end_of-Pattern, more_of-Pattern}
use Rattle.bk_rule.specs.declared.trees.Pattern as pattern
use Rattle.bk_rule.specs.Bindings.{value_in, type_in, int_in, symbol_in, place_in}
use Rattle.bk_rule.specs.Expressions.{Env}
use Rattle.bk_rule.specs.Match.{NameMatches, TypeMatches, IntMatches, AuxIs, AuxMatches, Matches, MatchesEach, ordered, swapped, is_commutative, first_is, order_of, orders}
use Rattle.bk_rule.specs.WordSound.{Setting, value_at, bits, pure_number, EachOf, EachNumber, Keeps, ForInt, ForType, aux_named, ForAux, ForValue, ForName, ForLeft, ForLefts, ForRoot}
use Rattle.bk_refine_laws.specs.Possible.{HasLow, MayBe}
use Rattle.bk_func.specs.Effects.{is_phi}
use Rattle.bk_func.specs.Symbols.{symbol_of}
use Rattle.bk_func.proofs.Faults.{In}
use Rattle.bk_refine_laws.specs.Trees.{HasNoPhi, HaveNoPhi, env_by}
use Rattle.bk_refine_laws.specs.Words.{setting_of, HasAux, AreWell, Falls, PossibleBelow}
use Rattle.bk_refine_laws.proofs.Commuting.{swapped_low}
use Rattle.bk_refine_laws.proofs.Below.{in_ordered}

aux_same : (f : FuncRecord) (m : ℕ → ℕ) (bs : List Bound) (o : Family) (i : ℕ) (x : Aux) → AuxIs bs i x → HasAux o x → aux_named o (env_by f m bs) i ≡ x
aux_same f m bs op.Store i beside.Nothing h k = elim h [ ]
aux_same f m bs op.Store i (beside.Sym s) h k = elim k [ ]
aux_same f m bs op.Store i (beside.Ty t) h k = ap (λ o. beside.Ty (type_in o)) h
aux_same f m bs op.Store i (beside.Arg a) h k = elim k [ ]
aux_same f m bs op.Arg i beside.Nothing h k = elim h [ ]
aux_same f m bs op.Arg i (beside.Sym s) h k = elim k [ ]
aux_same f m bs op.Arg i (beside.Ty t) h k = elim k [ ]
aux_same f m bs op.Arg i (beside.Arg a) h k = ap (λ o. beside.Arg (place_in o)) h
aux_same f m bs _ i beside.Nothing h k = elim h [ ]
aux_same f m bs _ i (beside.Sym s) h k = ap (λ o. beside.Sym (symbol_in o)) h
aux_same f m bs _ i (beside.Ty t) h k = elim k [ ]
aux_same f m bs _ i (beside.Arg a) h k = elim k [ ]

-- ---- one node
at_aux : (f : FuncRecord) (m : ℕ → ℕ) (bs : List Bound) (o : Family) (a : Option ℕ) (x : Aux) → AuxMatches bs a x → HasAux o x → (P : Aux → Type 0) → ForAux (env_by f m bs) o a P → P x
at_aux f m bs o None x h k P r = r x
at_aux f m bs o (Some i) x h k P r = subst P (aux_same f m bs o i x h k) r

at_int : (f : FuncRecord) (m : ℕ → ℕ) (bs : List Bound) (o : Op) (int : Option IntPart) (k : ℤ) → IntMatches bs int k → Keeps (row o.family o.a o.b).info.aux o k → (P : ℤ → Type 0) → ForInt (env_by f m bs) o int P → P k
at_int f m bs o None k h q P r = r k q
at_int f m bs o (Some (part.Number n)) k h q P r = subst P (sym h) (r (subst (Keeps (row o.family o.a o.b).info.aux o) h q))
at_int f m bs o (Some (part.Var i)) k h q P r = subst P (ap int_in h) (r (subst (Keeps (row o.family o.a o.b).info.aux o) (sym (ap int_in h)) q))

at_type : (f : FuncRecord) (m : ℕ → ℕ) (bs : List Bound) (ty : Option ℕ) (t : Ty) → TypeMatches bs ty t → (P : Ty → Type 0) → ForType (env_by f m bs) ty P → P t
at_type f m bs None t h P r = r t
at_type f m bs (Some i) t h P r = subst P (ap type_in h) r

at_value : (f : FuncRecord) (m : ℕ → ℕ) (bs : List Bound) (o : Op) (ty : Option ℕ) (int : Option IntPart) (a : Option ℕ) (v : ValueRecord) (ns : List ℕ) →
    TypeMatches bs ty v.ty → IntMatches bs int v.int → AuxMatches bs a v.aux → Keeps (row o.family o.a o.b).info.aux o v.int → HasAux o.family v.aux →
    (P : ValueRecord → Type 0) → ForValue (env_by f m bs) o ty int a ns P → P (value_at o v.ty v.int v.aux ns)
at_value f m bs o ty int a v ns ht hi ha ki ka P r =
    at_aux f m bs o.family a v.aux ha ka (λ x. P (value_at o v.ty v.int x ns))
    (at_int f m bs o int v.int hi ki (λ k. ForAux (env_by f m bs) o.family a (λ x. P (value_at o v.ty k x ns)))
    (at_type f m bs ty v.ty ht (λ t. ForInt (env_by f m bs) o int (λ k. ForAux (env_by f m bs) o.family a (λ x. P (value_at o t k x ns)))) r))

pub ordered_low : (t : Target) (m : ℕ → ℕ) (o : Op) (k : ℤ) (cs : List Bool) (ids : List ℕ) → op_value o k (map m (ordered o cs ids)) t ≡ op_value o k (map m ids) t
ordered_low t m o k cs ids = go (is_commutative o) refl (first_is cs)
  where
    go : (c : Bool) → is_commutative o ≡ c → (d : Bool) → op_value o k (map m (if c then (if d then swapped ids else ids) else ids)) t ≡ op_value o k (map m ids) t
    go true e true = swapped_low t m o k e ids
    go true e false = refl
    go false e d = refl

-- a number that the value may have is one of those that the tree can have
pub low_of : (o : Option ℕ) (w n : ℕ) (P : ℕ → Type 0) → EachOf o w P → HasLow o w n → P n
low_of None w n P h l = elim h [ ]
low_of (Some x) w n P h l = h n l

at_number : (c : Origin) (p : Program) (f : FuncRecord) (e : Numbers) (windows : ℕ → List ℕ) (m : ℕ → ℕ) (v : ValueRecord) (cs : List Bool) (n : ℕ) (P : ℕ → Type 0) →
    (c ≡ address → address_of p.pkg v.aux ≡ (setting_of p windows).address (symbol_of v.aux)) → MayBe c p f e m v n →
    EachOf (pure_number c p.target (setting_of p windows) (value_at v.op v.ty v.int v.aux (map m (ordered v.op cs v.args)))) (bits p.target v) P → P n
at_number computed p f e windows m v cs n P s h r =
    low_of (op_value v.op v.int (map m (ordered v.op cs v.args)) p.target) (bits p.target v) n P r
    (subst (λ o. HasLow o (bits p.target v) n) (sym (ordered_low p.target m v.op v.int cs v.args)) h)
at_number address p f e windows m v cs n P s h r = r n (h ∙ ap (λ k. k % 2 ^ bits p.target v) (s refl))
at_number phi p f e windows m v cs n P s h r = elim r [ ]
at_number argument p f e windows m v cs n P s h r = elim r [ ]
at_number argument_word p f e windows m v cs n P s h r = elim r [ ]
at_number result p f e windows m v cs n P s h r = elim r [ ]
at_number loaded p f e windows m v cs n P s h r = elim r [ ]
at_number checked p f e windows m v cs n P s h r = elim r [ ]
at_number same p f e windows m v cs n P s h r = elim r [ ]

at_name : (f : FuncRecord) (m : ℕ → ℕ) (bs : List Bound) (name : Option ℕ) (id : ℕ) (P : ℕ → Type 0) → NameMatches bs name id → ForName (env_by f m bs) name (m id) P → P (m id)
at_name f m bs None id P h r = r
at_name f m bs (Some i) id P h r = r (ap (λ o. m (value_in o)) h)

-- ---- the tree
-- what a value takes, in the order that a node asks for
taken_under : (f : FuncRecord) (live : ℕ → Type 0) (rank : ℕ → ℕ) → Falls f live rank → (id : ℕ) (v : ValueRecord) (o : Op) (cs : List Bool) → live id → value_of f id ≡ Some v → v.op ≡ o →
    is_phi (origin_of o.family) ≡ false → (x : ℕ) → In x (ordered o cs v.args) → live x × (rank x < rank id)
taken_under f live rank k id v o cs l e d c x i =
    k.falls id v l e (ap (λ (y : Op). is_phi (origin_of y.family)) d ∙ c) x (in_ordered o cs v.args x i)

-- what the proof knows of the function and its numbers below a rank
pub record Under (p : Program) (f : FuncRecord) (e : Numbers) (m : ℕ → ℕ) (live : ℕ → Type 0) (rank : ℕ → ℕ) (n : ℕ) : Type 0 where
  pub well : AreWell p f
  pub falls : Falls f live rank
  pub possible : PossibleBelow p f e m live rank n

mutual
  left_at : (q : Pattern) (p : Program) (f : FuncRecord) (e : Numbers) (windows : ℕ → List ℕ) (m : ℕ → ℕ) (live : ℕ → Type 0) (rank : ℕ → ℕ) (top : ℕ) (bs : List Bound) → Under p f e m live rank top → HasNoPhi q →
      (id : ℕ) (cs : List Bool) → live id × (rank id < top) → Matches f bs q id cs →
      (P : ℕ → Type 0) → ForLeft p.target (setting_of p windows) (env_by f m bs) q P → P (m id)
  left_at pattern.Any p f e windows m live rank top bs k z id cs l h P r = r (m id)
  left_at (pattern.Var i) p f e windows m live rank top bs k z id cs l h P r = subst P (ap (λ o. m (value_in o)) h) r
  left_at (pattern.Node' name o ty int a shape ps) p f e windows m live rank top bs k (z, zs) id cs l (n, (v, d, c, y, i, b, hs)) P r =
      let E : Env = env_by f m bs in
      let S : Setting = setting_of p windows in
      let Q : Op → Type 0 = λ o. TypeMatches bs ty v.ty × IntMatches bs int v.int × AuxMatches bs a v.aux ×
      ForValue E o ty int a (map m (ordered o cs v.args)) (λ u. EachNumber p.target S u (λ x. ForName E name x P)) in
      let q : Q v.op = subst Q (sym c) (
        y,
        i,
        b,
        lefts_at ps p f e windows m live rank top bs k zs (ordered o cs v.args) (drop (order_of o) cs)
            (λ x j. (let u = taken_under f live rank k.falls id v o cs l.0 d c z x j in (u.0, omega (arith, u.1, l.1))))
            hs (λ ns. ForValue E o ty int a ns (λ u. EachNumber p.target S u (λ x. ForName E name x P))) r,
      ) in
      at_name f m bs name id P n
      (at_number (origin_of v.op.family) p f e windows m v cs (m id) (λ x. ForName E name x P) (k.well id v d).symbol (k.possible id v d l.0 l.1)
      (at_value f m bs v.op ty int a v (map m (ordered v.op cs v.args)) q.0 q.1 q.2 (k.well id v d).int (k.well id v d).aux (λ u. EachNumber p.target S u (λ x. ForName E name x P)) q.3))

  lefts_at : {c : _} (qs : Row_of-Pattern c) (p : Program) (f : FuncRecord) (e : Numbers) (windows : ℕ → List ℕ) (m : ℕ → ℕ) (live : ℕ → Type 0) (rank : ℕ → ℕ) (top : ℕ) (bs : List Bound) → Under p f e m live rank top → HaveNoPhi qs →
      (ids : List ℕ) (cs : List Bool) → ((x : ℕ) → In x ids → live x × (rank x < top)) → MatchesEach f bs qs ids cs →
      (P : List ℕ → Type 0) → ForLefts p.target (setting_of p windows) (env_by f m bs) qs P → P (map m ids)
  lefts_at end_of-Pattern p f e windows m live rank top bs k z [] cs l h P r = r
  lefts_at end_of-Pattern p f e windows m live rank top bs k z (i ∷ is) cs l h P r = elim h [ ]
  lefts_at (more_of-Pattern q qs) p f e windows m live rank top bs k z [] cs l h P r = elim h [ ]
  lefts_at (more_of-Pattern q qs) p f e windows m live rank top bs k (z, zs) (i ∷ is) cs l (h, hs) P r =
      lefts_at qs p f e windows m live rank top bs k zs is (drop (orders q) cs) (λ x j. l x (inr j)) hs (λ ns. P (m i ∷ ns))
      (left_at q p f e windows m live rank top bs k z i cs (l i (inl refl)) h (λ n. ForLefts p.target (setting_of p windows) (env_by f m bs) qs (λ ns. P (n ∷ ns))) r)

-- what holds of each value that the root can be holds of the value where it stands
pub root_at : (q : Pattern) (p : Program) (f : FuncRecord) (e : Numbers) (windows : ℕ → List ℕ) (m : ℕ → ℕ) (live : ℕ → Type 0) (rank : ℕ → ℕ) (v : ValueRecord) (bs : List Bound) → Under p f e m live rank (rank v.id) → HasNoPhi q →
    (cs : List Bool) → live v.id → Matches f bs q v.id cs → value_of f v.id ≡ Some v →
    (P : ValueRecord → Type 0) → ForRoot p.target (setting_of p windows) (env_by f m bs) q P → P (value_at v.op v.ty v.int v.aux (map m (ordered v.op cs v.args)))
root_at pattern.Any p f e windows m live rank v bs k z cs l h d P r = elim r [ ]
root_at (pattern.Var i) p f e windows m live rank v bs k z cs l h d P r = elim r [ ]
root_at (pattern.Node' name o ty int a shape ps) p f e windows m live rank v bs k (z, zs) cs l (n, (u, w, c, y, i, b, hs)) d P r =
    let E : Env = env_by f m bs in
    let x : u ≡ v = (let g : Some u ≡ Some v = sym w ∙ d in cc) in
    let Q : Op → Type 0 = λ o. TypeMatches bs ty u.ty × IntMatches bs int u.int × AuxMatches bs a u.aux × ForValue E o ty int a (map m (ordered o cs u.args)) P in
    let q : Q u.op = subst Q (sym c) (
      y,
      i,
      b,
      lefts_at ps p f e windows m live rank (rank v.id) bs k zs (ordered o cs u.args) (drop (order_of o) cs)
          (λ x j. taken_under f live rank k.falls v.id u o cs l w c z x j)
          hs (λ ns. ForValue E o ty int a ns P) r,
    ) in
    let R : ValueRecord → Type 0 = λ v. P (value_at v.op v.ty v.int v.aux (map m (ordered v.op cs v.args))) in
    subst R x
    (at_value f m bs u.op ty int a u (map m (ordered u.op cs u.args)) q.0 q.1 q.2 (k.well v.id u w).int (k.well v.id u w).aux P q.3)
