-- Rules that are not sound: a count at which they give another number.
use Rattle.std.proofs.Common.{◌≡◌, ℕ, ◌+◌, ◌*◌, ◌%◌, ◌^◌, ◌<◌, bit_and, ◌==◌, if◌then◌else◌, refl, ap, sym, ◌∙◌, arith, [], ◌∷◌, pos}
use Rattle.bk_num.proofs.Powers.{shl_gone}
use Rattle.bk_ops.specs.declared.types.Target.TheVariants.{Arm}
use Rattle.bk_ops.specs.declared.types.Ty.TheVariants as ty
use Rattle.bk_ops.specs.declared.family.Family.TheVariants as generic
use Rattle.bk_ops.specs.Formulas.{formula}
use Rattle.bk_rule.specs.declared.trees.Rule.{Rule}
use Rattle.bk_rule.specs.Trees.{op, var, node, named, number, rule}
use Rattle.bk_rule.specs.Expressions.{Env}
use Rattle.bk_rule.specs.Sound.{SoundRule, HasInts}
use Rattle.bk_rule.proofs.Opened.{opened}
use Rattle.bk_rules_dec64.specs.Nodes.{high, low, pair, word, constant_at, shift}
use Rattle.bk_rules_dec64.specs.Families.{left_over, beyond, order}

-- two numbers in the places of a left tree's variables
numbers : ℕ → ℕ → Env
numbers x y = record { value = λ i. if i == 0 then x else y; int = λ i. pos 0; ty = λ i. ty.Uint64; symbol = λ i. 0; place = λ i. 0; uses = λ i. 0 }

-- a shift to the left whose low half keeps of the count what k has
abbrev left_masked : ℕ → Rule
left_masked k = rule (node (op generic.Lsh 64 32) (var 0 ∷ var 1 ∷ []))
    (pair
    (word generic.Or (word generic.Or (shift generic.Lsh 32 (high 0) (named 1)) (shift generic.RshU 32 (low 0) left_over)) (shift generic.Lsh 32 (low 0) beyond))
    (shift generic.Lsh 32 (low 0) (word generic.And (named 1) (constant_at (number (pos k))))))

-- each expression of its right tree has a value
with_values : (x y k : ℕ) → HasInts Arm (numbers x y) (left_masked k).right
unfolding opened
with_values x y k = (tt, ((tt, ((tt, ((tt, ((tt, (tt, tt)), (tt, tt))), ((tt, ((tt, (tt, tt)), ((tt, ((refl, tt), (tt, tt))), tt))), tt))), ((tt, ((tt, (tt, tt)), ((tt, (tt, ((refl, tt), tt))), tt))), tt))), ((tt, ((tt, (tt, tt)), ((tt, (tt, ((refl, tt), tt))), tt))), tt)))

pub left_unsound_at_32 : SoundRule Arm (left_masked 31) → ⊥
unfolding SoundRule opened formula numbers
left_unsound_at_32 f =
    let q : ◌≡◌ {A = ℕ} 4294967297 4294967296 = f (numbers 1 32) 4294967296 (tt, tt, (1, omega arith, tt, refl, (32, omega arith, tt, refl, (pos 0, refl, refl)))) refl (with_values 1 32 31) in
    absurd (omega arith)

low_half : ℕ → ℕ
low_half s = 1 * 2 ^ (bit_and (s % 2 ^ 32) 63 % 2 ^ 32) % 2 ^ 32 % 2 ^ 32

low_is_none : (a b : ℕ) → a * 4294967296 + b ≡ 0 → b ≡ 0
low_is_none a b e = omega arith

at_64 : (s : ℕ) → s ≡ 64 → s < 2 ^ 32 → SoundRule Arm (left_masked 63) → ⊥
unfolding SoundRule opened formula numbers low_half
at_64 s e l f =
    let g : 1 * 2 ^ s % 2 ^ 64 ≡ 0 = sym (shl_gone 64 1 s (omega arith)) in
    let q : low_half s ≡ 0 = low_is_none _ (low_half s) (f (numbers 1 s) 0 (tt, tt, (1, omega arith, tt, refl, (s, l, tt, refl, (pos 0, refl, g)))) refl (with_values 1 s 63)) in
    let r : ◌≡◌ {A = ℕ} 1 0 = ap low_half (sym e) ∙ q in
    absurd (omega arith)

pub left_unsound_at_64 : SoundRule Arm (left_masked 63) → ⊥
left_unsound_at_64 f = at_64 64 refl (omega arith) f

-- an order whose low halves have a sign
pub less_unsound : SoundRule Arm (order generic.Less generic.Less generic.Less) → ⊥
unfolding SoundRule opened formula numbers
less_unsound f =
    let q : ◌≡◌ {A = ℕ} 0 1 = f (numbers 0 2147483648) 1 (tt, tt, (0, omega arith, tt, refl, (2147483648, omega arith, tt, refl, (pos 0, refl, refl)))) refl search in
    absurd (omega arith)
