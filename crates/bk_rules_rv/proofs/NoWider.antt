-- On riscv64 no type is wider than a machine word: a rule that is sound in functions in words is sound wherever its left tree stands.
use Rattle.std.proofs.Common.{ℕ, ◌≤◌, arith, List, [], ◌∷◌, Option, Some, None, ℤ}
use Rattle.bk_ops.specs.declared.types.Target.{Target}
use Rattle.bk_ops.specs.declared.types.Target.TheVariants.{Riscv64}
use Rattle.bk_ops.specs.declared.types.Ty.{Ty}
use Rattle.bk_ops.specs.declared.types.Ty.TheVariants as ty
use Rattle.bk_ops.specs.declared.family.Family.{Family}
use Rattle.bk_ops.specs.declared.table.Op.{Op}
use Rattle.bk_ops.specs.Types.{width_of}
use Rattle.bk_func.specs.declared.parts.Aux.{Aux}
use Rattle.bk_func.specs.Records.{ValueRecord}
use Rattle.bk_func.specs.Numbers.{origin_of}
use Rattle.bk_rule.specs.declared.trees.IntPart.{IntPart}
use Rattle.bk_rule.specs.declared.trees.IntPart.TheVariants as part
use Rattle.bk_rule.specs.declared.trees.Pattern.{Pattern, Row_of-Pattern, end_of-Pattern, more_of-Pattern}
use Rattle.bk_rule.specs.declared.trees.Pattern as pattern
use Rattle.bk_rule.specs.declared.trees.Rule.{Rule}
use Rattle.bk_rule.specs.Expressions.{Env}
use Rattle.bk_rule.specs.WordSound.{Setting, pure_number, bits, value_at, aux_named, EachOf, ForType, ForInt, ForAux, ForValue, ForName, ForLeft, ForLefts, ForRoot, SoundWordRule}
use Rattle.bk_rules_words.specs.Sound.{SoundInWords}

-- ---- less holds of each value of a left tree where more does
less_typed : (e : Env) (y : Option ℕ) {P Q : Ty → Type 0} → ((z : Ty) → P z → Q z) → ForType e y P → ForType e y Q
less_typed e None f h = λ z. f z (h z)
less_typed e (Some i) f h = f (e.ty i) h

less_counted : (e : Env) (o : Op) (int : Option IntPart) {P Q : ℤ → Type 0} → ((k : ℤ) → P k → Q k) → ForInt e o int P → ForInt e o int Q
less_counted e o None f h = λ k c. f k (h k c)
less_counted e o (Some (part.Number k)) f h = λ c. f k (h c)
less_counted e o (Some (part.Var i)) f h = λ c. f (e.int i) (h c)

less_beside : (e : Env) (g : Family) (aux : Option ℕ) {P Q : Aux → Type 0} → ((x : Aux) → P x → Q x) → ForAux e g aux P → ForAux e g aux Q
less_beside e g None f h = λ x. f x (h x)
less_beside e g (Some i) f h = f (aux_named g e i) h

less_valued : (e : Env) (o : Op) (y : Option ℕ) (int : Option IntPart) (aux : Option ℕ) (ns : List ℕ) {P Q : ValueRecord → Type 0} → ((v : ValueRecord) → P v → Q v) →
    ForValue e o y int aux ns P → ForValue e o y int aux ns Q
less_valued e o y int aux ns f = less_typed e y (λ z. less_counted e o int (λ k. less_beside e o.family aux (λ x. f (value_at o z k x ns))))

less_numbered : (m : Option ℕ) (w : ℕ) {P Q : ℕ → Type 0} → ((n : ℕ) → P n → Q n) → EachOf m w P → EachOf m w Q
less_numbered None w f h = h
less_numbered (Some m) w f h = λ n a. f n (h n a)

less_named : (e : Env) (name : Option ℕ) (n : ℕ) {P Q : ℕ → Type 0} → ((k : ℕ) → P k → Q k) → ForName e name n P → ForName e name n Q
less_named e None n f h = f n h
less_named e (Some i) n f h = λ q. f n (h q)

mutual
  less_left : (t : Target) (s : Setting) (e : Env) (p : Pattern) {P Q : ℕ → Type 0} → ((n : ℕ) → P n → Q n) → ForLeft t s e p P → ForLeft t s e p Q
  less_left t s e pattern.Any f h = λ n. f n (h n)
  less_left t s e (pattern.Var i) f h = f (e.value i) h
  less_left t s e (pattern.Node' name o y int aux shape ps) f h =
      less_lefts t s e ps (λ ns. less_valued e o y int aux ns (λ v. less_numbered (pure_number (origin_of v.op.family) t s v) (bits t v) (λ n. less_named e name n f))) h

  less_lefts : (t : Target) (s : Setting) (e : Env) {m : _} (ps : Row_of-Pattern m) {P Q : List ℕ → Type 0} → ((ns : List ℕ) → P ns → Q ns) →
      ForLefts t s e ps P → ForLefts t s e ps Q
  less_lefts t s e end_of-Pattern f h = f [] h
  less_lefts t s e (more_of-Pattern p ps) f h = less_left t s e p (λ n. less_lefts t s e ps (λ ns. f (n ∷ ns))) h

less_root : (t : Target) (s : Setting) (e : Env) (p : Pattern) {P Q : ValueRecord → Type 0} → ((v : ValueRecord) → P v → Q v) → ForRoot t s e p P → ForRoot t s e p Q
less_root t s e pattern.Any f h = h
less_root t s e (pattern.Var i) f h = h
less_root t s e (pattern.Node' name o y int aux shape ps) f h = less_lefts t s e ps (λ ns. less_valued e o y int aux ns f) h

-- ---- types
no_wider : (y : Ty) → width_of y Riscv64 ≤ 64
no_wider ty.Bool = omega arith
no_wider ty.Int8 = omega arith
no_wider ty.Uint8 = omega arith
no_wider ty.Int16 = omega arith
no_wider ty.Uint16 = omega arith
no_wider ty.Int32 = omega arith
no_wider ty.Uint32 = omega arith
no_wider ty.Int64 = omega arith
no_wider ty.Uint64 = omega arith
no_wider ty.Int = omega arith
no_wider ty.Uint = omega arith
no_wider ty.Uintptr = omega arith
no_wider ty.Ptr = omega arith
no_wider ty.Mem = omega arith
no_wider ty.Void = omega arith
no_wider ty.Tuple = omega arith

pub sound_in_words : (r : Rule) → SoundInWords Riscv64 r → SoundWordRule Riscv64 r
unfolding SoundInWords SoundWordRule
sound_in_words r h = λ e s. less_root Riscv64 s e r.left (λ l m c. m (c, no_wider l.ty)) (h e s)
