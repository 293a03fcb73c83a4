-- What the reader gives of right trees.
use Rattle.std.proofs.Common.{◌≡◌, ◌⊎◌, inl, inr, ℕ, zero, suc, ◌^◌, ◌<◌, List, [], ◌∷◌, ◌++◌, length, ap, ◌∙◌, sym, refl, subst, Bool, true, false, cond, Option, Some, None, codes}
use Rattle.std.specs.List.{find, AllByRecursion}
use Rattle.std.specs.Str.{bytes_eq}
use Rattle.std.proofs.lemmas.Slice.Eq.{bytes_eq-Decides}
use Rattle.bk_ops.specs.declared.types.Ty.{Ty}
use Rattle.bk_rule.specs.declared.trees.Expr.{Expr}
use Rattle.bk_rule.specs.declared.trees.TyPart.{TyPart}
use Rattle.bk_rule.specs.declared.trees.TyPart.TheVariants as part
use Rattle.bk_rule.specs.declared.trees.Build.{Build}
use Rattle.bk_rule.specs.Trees.{named}
use Rattle.bk_rule_text.specs.Front.{◌>>=◌, Read, mark_at, closed, onto, until_bracket}
use Rattle.bk_rule_text.specs.Layout.{type_name}
use Rattle.bk_rule_text.specs.Names.{Variables, in_scope}
use Rattle.bk_rule_text.specs.Words.{is_word_byte, begins_name, name_at, types, type_of_name, variable_at}
use Rattle.bk_rule_text.specs.Exprs.{expr_at}
use Rattle.bk_rule_text.specs.Patterns.{op_at}
use Rattle.bk_rule_text.specs.Builds.{type_named, type_in, type_part_at, int_part_at, aux_in, aux_part_at, node_at, bound_at, build_in, build_at}
use Rattle.bk_rule_text.proofs.Inverse.{Was, none_is_some, same, steps, marked, mapped, before_mark}
use Rattle.bk_rule_text.proofs.PrintedBuilds.{TypeWritten, MadeType, MadeInt, MadeAux, made, Rights, no_right, var_right, node_right}
use Rattle.bk_rule_text.proofs.ReadExprs.{renamed, named_still, expr_gives}
use Rattle.bk_rule_text.proofs.ReadPatterns.{name_words, op_gives}

-- what is found passes the test
found_passes : {A : Type 0} (p : A → Bool) (xs : List A) (x : A) → find p xs ≡ Some x → p x ≡ true
found_passes p [] x e = none_is_some x e
found_passes {A} p (y ∷ xs) x e = by (p y) refl (found_passes p xs x)
  where
    by : (b : Bool) → p y ≡ b → (find p xs ≡ Some x → p x ≡ true) → p x ≡ true
    by true t on = ap p (sym (same y x (sym (ap (λ d. cond d (Some y) (find p xs)) t) ∙ e))) ∙ t
    by false t on = on (sym (ap (λ d. cond d (Some y) (find p xs)) t) ∙ e)

type_written : (name : List ℕ) (t : Ty) → AllByRecursion (λ c. is_word_byte c ≡ true) name → begins_name name ≡ true → type_of_name name ≡ Some t → TypeWritten t
unfolding type_of_name
type_written name t w b e =
    let h : type_name t ≡ name = (bytes_eq-Decides (type_name t) name).0 (found_passes (λ u. bytes_eq (type_name u) name) types t e) in
    record {
      back = ap (λ n. find (λ u. bytes_eq (type_name u) n) types) h ∙ e;
      words = subst (λ (v : List ℕ). AllByRecursion (λ c. is_word_byte c ≡ true) v) (sym h) w;
      begins = ap begins_name h ∙ b;
    }

type_gives : (s : Variables) (text rest : List ℕ) (o : Option TyPart) → length s.names < 2 ^ 64 → type_in s text ≡ Some (o, rest) → MadeType (renamed s) o
unfolding type_in type_named
type_gives s text rest o n e =
    let a = steps (closed (codes ">") name_at text) (λ m. type_named s m.0 >>= λ t. Some (Some t, m.1)) (o, rest) e in
    let b = before_mark (codes ">") name_at text a.0.1 a.0.0 a.1 in
    let w = name_words text a.0.0 b.0 b.1 in
    let c = steps (type_named s a.0.0) (λ t. Some (Some t, a.0.1)) (o, rest) a.2 in
    subst (MadeType (renamed s)) (ap (λ p. p.0) (same (Some c.0, a.0.1) (o, rest) c.2))
    (by a.0.0 c.0 w (mapped (λ t. Some (part.Is t)) (type_of_name a.0.0) (in_scope s a.0.0 >>= λ i. Some (part.Var i)) (Some c.0) c.1))
  where
    by : (name : List ℕ) (p : TyPart) → AllByRecursion (λ c. is_word_byte c ≡ true) name × (begins_name name ≡ true)
        → ((t : Ty) × (type_of_name name ≡ Some t) × (Some (part.Is t) ≡ Some p)) ⊎ ((type_of_name name ≡ None) × ((in_scope s name >>= λ i. Some (part.Var i)) ≡ Some p)) → MadeType (renamed s) (Some p)
    by name p w (inl a) = subst (λ (q : TyPart). MadeType (renamed s) (Some q)) (same (part.Is a.0) p a.2) (type_written name a.0 w.0 w.1 a.1)
    by name p w (inr a) =
        let b = steps (in_scope s name) (λ i. Some (part.Var i)) p a.1 in
        subst (λ (q : TyPart). MadeType (renamed s) (Some q)) (same (part.Var b.0) p b.2) (named_still s name b.0 n b.1)

type_part_gives : (s : Variables) (text rest : List ℕ) (o : Option TyPart) → length s.names < 2 ^ 64 → type_part_at s text ≡ Some (o, rest) → MadeType (renamed s) o
unfolding type_part_at
type_part_gives s text rest o n e = by (marked (mark_at (codes "<") text) (type_in s) (Some (None, text)) (Some (o, rest)) e)
  where
    by : ((r : List ℕ) × (mark_at (codes "<") text ≡ Some r) × Was (type_in s r) o rest) ⊎ ((mark_at (codes "<") text ≡ None) × Was (Some (None, text)) o rest) → MadeType (renamed s) o
    by (inl a) = type_gives s a.0 rest o n a.2
    by (inr a) = subst (MadeType (renamed s)) (ap (λ p. p.0) (same (None, text) (o, rest) a.1)) tt

int_part_gives : (s : Variables) (m : ℕ) (text rest : List ℕ) (o : Option Expr) → length s.names < 2 ^ 64 → int_part_at s m text ≡ Some (o, rest) → MadeInt (renamed s) o
unfolding int_part_at
int_part_gives s m text rest o n e = by (marked (mark_at (codes "[") text) (λ r. closed (codes "]") (expr_at s m) r >>= λ x. Some (Some x.0, x.1)) (Some (None, text)) (Some (o, rest)) e)
  where
    by : ((r : List ℕ) × (mark_at (codes "[") text ≡ Some r) × Was (closed (codes "]") (expr_at s m) r >>= λ x. Some (Some x.0, x.1)) o rest) ⊎ ((mark_at (codes "[") text ≡ None) × Was (Some (None, text)) o rest) → MadeInt (renamed s) o
    by (inl a) =
        let b = steps (closed (codes "]") (expr_at s m) a.0) (λ x. Some (Some x.0, x.1)) (o, rest) a.2 in
        let c = before_mark (codes "]") (expr_at s m) a.0 b.0.1 b.0.0 b.1 in
        subst (MadeInt (renamed s)) (ap (λ p. p.0) (same (Some b.0.0, b.0.1) (o, rest) b.2)) (expr_gives s n m a.0 c.0 b.0.0 c.1)
    by (inr a) = subst (MadeInt (renamed s)) (ap (λ p. p.0) (same (None, text) (o, rest) a.1)) tt

aux_part_gives : (s : Variables) (text rest : List ℕ) (o : Option ℕ) → length s.names < 2 ^ 64 → aux_part_at s text ≡ Some (o, rest) → MadeAux (renamed s) o
unfolding aux_part_at aux_in
aux_part_gives s text rest o n e = by (marked (mark_at (codes "{") text) (aux_in s) (Some (None, text)) (Some (o, rest)) e)
  where
    by : ((r : List ℕ) × (mark_at (codes "{") text ≡ Some r) × Was (aux_in s r) o rest) ⊎ ((mark_at (codes "{") text ≡ None) × Was (Some (None, text)) o rest) → MadeAux (renamed s) o
    by (inl a) =
        let b = steps (closed (codes "}") variable_at a.0) (λ m. in_scope s m.0 >>= λ i. Some (Some i, m.1)) (o, rest) a.2 in
        let c = steps (in_scope s b.0.0) (λ i. Some (Some i, b.0.1)) (o, rest) b.2 in
        subst (MadeAux (renamed s)) (ap (λ p. p.0) (same (Some c.0, b.0.1) (o, rest) c.2)) (named_still s b.0.0 c.0 n c.1)
    by (inr a) = subst (MadeAux (renamed s)) (ap (λ p. p.0) (same (None, text) (o, rest) a.1)) tt

-- ---- trees
rights_join : (s : Variables) (bs cs : List Build) → Rights s bs → Rights s cs → Rights s (bs ++ cs)
rights_join s bs cs no_right t = t
rights_join s bs cs (var_right i ds n h) t = var_right i (ds ++ cs) n (rights_join s ds cs h t)
rights_join s bs cs (node_right o ty int aux args ds w h g f d c) t = node_right o ty int aux args (ds ++ cs) w h g f d (rights_join s ds cs c t)

abbrev Gives : Variables → Read Build → Type 0
Gives s read = (text rest : List ℕ) (b : Build) → read text ≡ Some (b, rest) → Rights s (b ∷ [])

onto_gives : (x : Build) (o : Option (List Build × List ℕ)) (bs : List Build) (rest : List ℕ) → onto x o ≡ Some (bs, rest) → (cs : List Build) × (o ≡ Some (cs, rest)) × (bs ≡ x ∷ cs)
onto_gives x None bs rest e = none_is_some (bs, rest) e
onto_gives x (Some m) bs rest e =
    let q = same (x ∷ m.0, m.1) (bs, rest) e in
    (m.0, ap (λ p. Some (m.0, p.1)) q, sym (ap (λ p. p.0) q))

row_gives : (s : Variables) (read : Read Build) → Gives s read → (n : ℕ) (text rest : List ℕ) (bs : List Build) → until_bracket read n text ≡ Some (bs, rest) → Rights s bs
unfolding until_bracket
row_gives s read g zero text rest bs e = none_is_some (bs, rest) e
row_gives s read g (suc n) text rest bs e =
    by (marked (mark_at (codes ")") text) (λ r. Some ([], r)) (read text >>= λ x. onto x.0 (until_bracket read n x.1)) (Some (bs, rest)) e) (row_gives s read g n)
  where
    by : ((r : List ℕ) × (mark_at (codes ")") text ≡ Some r) × Was (Some ([], r)) bs rest) ⊎ ((mark_at (codes ")") text ≡ None) × Was (read text >>= λ x. onto x.0 (until_bracket read n x.1)) bs rest)
        → ((text2 rest2 : List ℕ) (bs2 : List Build) → until_bracket read n text2 ≡ Some (bs2, rest2) → Rights s bs2) → Rights s bs
    by (inl a) on = subst (Rights s) (ap (λ p. p.0) (same ([], a.0) (bs, rest) a.2)) no_right
    by (inr a) on =
        let b = steps (read text) (λ x. onto x.0 (until_bracket read n x.1)) (bs, rest) a.1 in
        let c = onto_gives b.0.0 (until_bracket read n b.0.1) bs rest b.2 in
        subst (Rights s) (sym c.2) (rights_join s (b.0.0 ∷ []) c.0 (g text b.0.1 b.0.0 b.1) (on b.0.1 rest c.0 c.1))

node_gives : (s : Variables) (m : ℕ) (read : Read Build) → length s.names < 2 ^ 64 → Gives (renamed s) read → (text rest : List ℕ) (b : Build) → node_at s m read text ≡ Some (b, rest) → Rights (renamed s) (b ∷ [])
unfolding node_at
node_gives s m read n g text rest b e =
    let c1 = steps (op_at text) (λ o. type_part_at s o.1 >>= λ t. int_part_at s m t.1 >>= λ i. aux_part_at s i.1 >>= λ x. until_bracket read (length x.1) x.1 >>= λ bs. Some (made o.0 t.0 i.0 x.0 bs.0, bs.1)) (b, rest) e in
    let o = c1.0.0 in
    let c2 = steps (type_part_at s c1.0.1) (λ t. int_part_at s m t.1 >>= λ i. aux_part_at s i.1 >>= λ x. until_bracket read (length x.1) x.1 >>= λ bs. Some (made o t.0 i.0 x.0 bs.0, bs.1)) (b, rest) c1.2 in
    let t = c2.0.0 in
    let c3 = steps (int_part_at s m c2.0.1) (λ i. aux_part_at s i.1 >>= λ x. until_bracket read (length x.1) x.1 >>= λ bs. Some (made o t i.0 x.0 bs.0, bs.1)) (b, rest) c2.2 in
    let i = c3.0.0 in
    let c4 = steps (aux_part_at s c3.0.1) (λ x. until_bracket read (length x.1) x.1 >>= λ bs. Some (made o t i x.0 bs.0, bs.1)) (b, rest) c3.2 in
    let x = c4.0.0 in
    let c5 = steps (until_bracket read (length c4.0.1) c4.0.1) (λ bs. Some (made o t i x bs.0, bs.1)) (b, rest) c4.2 in
    subst (λ (y : Build). Rights (renamed s) (y ∷ [])) (ap (λ p. p.0) (same (made o t i x c5.0.0, c5.0.1) (b, rest) c5.2))
    (
    node_right o t i x c5.0.0 [] (op_gives text c1.0.1 o c1.1) (type_part_gives s c1.0.1 c2.0.1 t n c2.1) (int_part_gives s m c2.0.1 c3.0.1 i n c3.1) (aux_part_gives s c3.0.1 c4.0.1 x n c4.1)
    (row_gives (renamed s) read g (length c4.0.1) c4.0.1 c5.0.1 c5.0.0 c5.1) no_right
    )

bound_gives : (s : Variables) (text rest : List ℕ) (b : Build) → length s.names < 2 ^ 64 → bound_at s text ≡ Some (b, rest) → Rights (renamed s) (b ∷ [])
unfolding bound_at
bound_gives s text rest b n e =
    let a = steps (variable_at text) (λ m. in_scope s m.0 >>= λ i. Some (named i, m.1)) (b, rest) e in
    let c = steps (in_scope s a.0.0) (λ i. Some (named i, a.0.1)) (b, rest) a.2 in
    subst (λ (y : Build). Rights (renamed s) (y ∷ [])) (ap (λ p. p.0) (same (named c.0, a.0.1) (b, rest) c.2)) (var_right c.0 [] (named_still s a.0.0 c.0 n c.1) no_right)

build_in_gives : (s : Variables) (m : ℕ) (read : Read Build) → length s.names < 2 ^ 64 → Gives (renamed s) read → Gives (renamed s) (build_in s m read)
unfolding build_in
build_in_gives s m read n g text rest b e = by (marked (mark_at (codes "(") text) (node_at s m read) (bound_at s text) (Some (b, rest)) e)
  where
    by : ((r : List ℕ) × (mark_at (codes "(") text ≡ Some r) × Was (node_at s m read r) b rest) ⊎ ((mark_at (codes "(") text ≡ None) × Was (bound_at s text) b rest) → Rights (renamed s) (b ∷ [])
    by (inl a) = node_gives s m read n g a.0 rest b a.2
    by (inr a) = bound_gives s text rest b n a.1

pub build_gives : (s : Variables) → length s.names < 2 ^ 64 → (m : ℕ) → Gives (renamed s) (build_at s m)
unfolding build_at
build_gives s n zero text rest b e = none_is_some (b, rest) e
build_gives s n (suc m) text rest b e = build_in_gives s m (build_at s m) n (build_gives s n m) text rest b e
