-- A name is read back as its op, and what is read is the op of the name.
use Rattle.std.proofs.Common.{◌≡◌, ℕ, Bool, true, false, inl, inr, refl, sym, ◌∙◌, ap, subst, List, [], ◌∷◌, ◌++◌, length, Option, Some, None, append-nil, take-append-drop, ◌==◌, ◌&&◌, nat_lt, if◌then◌else◌, arith, position}
use Rattle.std.proofs.lemmas.Bool.{false≢true, eqb-true, and_parts, or_cases}
use Rattle.std.proofs.lemmas.Slice.Eq.{bytes_eq-Decides}
use Rattle.std.specs.List.{find}
use Rattle.bk_ops.specs.declared.family.Family.{Family}
use Rattle.bk_ops.specs.declared.family.Family.TheVariants.{Const, ConstBool, ConstNil, Add, Sub, Mul, And, Or, Xor, Neg, Com, Div, Divu, Mod, Modu, Hmul, Hmulu, Lsh, Rsh, RshU, Eq, Neq, Less, LessU, Leq, LeqU, EqB, NeqB, AndB, OrB, Not, EqPtr, NeqPtr, IsNonNil, IsInBounds, IsSliceInBounds, SignExt, ZeroExt, Trunc, CvtBoolToUint8, Signmask, Zeromask, Ctz32, BitLen32, RotateLeft, CondSelect, AddPtr, SubPtr, OffPtr, Int64Make, Int64Hi, Int64Lo, AddHi32, SubHi32, Phi, Copy, Arg, InitMem, Sp, Sb, Addr, Load, Store, Zero, Move, NilCheck, PanicBounds, StaticLECall, SelectN, MakeResult, ArgWord, ArgReg, ResWord, ResReg, OutWord, RetWord, RetRegs, Call, CallRegs, Trap, Arm, Rv}
use Rattle.bk_ops.specs.declared.family.ArmOp.TheVariants as arm
use Rattle.bk_ops.specs.declared.family.RvOp.TheVariants as rv
use Rattle.bk_ops.specs.declared.table.Widths.{Widths}
use Rattle.bk_ops.specs.declared.table.Widths.TheVariants.{Alone, Each, Long, Only, Pairs, Rising, Falling, UpTo4, UpTo8}
use Rattle.bk_ops.specs.declared.table.Op.{Op}
use Rattle.bk_ops.specs.Table.{entry, row, arm_row, rv_row, allows, is_width, is_op}
use Rattle.bk_ops.specs.Names.{digits, spelled, name_of, HasName}
use Rattle.bk_ops.specs.Reading.{families_of, begins_width, front_to, back_from, front, back, one_digit, width_at, is_spelt, family_of, op_at, read}

-- what holds at each choice of widths
abbrev AtEach : (ℕ → Type 0) → Type 0
AtEach P = P 8 × (P 16 × (P 32 × P 64))

abbrev AtWidths : Widths → (ℕ → ℕ → Type 0) → Type 0
AtWidths Alone P = P 0 0
AtWidths Each P = AtEach (λ a. P a 0)
AtWidths Long P = P 32 0 × P 64 0
AtWidths (Only n) P = P n 0
AtWidths Pairs P = AtEach (λ a. AtEach (P a))
AtWidths Rising P = (P 8 16 × (P 8 32 × P 8 64)) × ((P 16 32 × P 16 64) × P 32 64)
AtWidths Falling P = (P 64 8 × (P 64 16 × P 64 32)) × ((P 32 8 × P 32 16) × P 16 8)
AtWidths UpTo4 P = P 1 0 × (P 2 0 × P 4 0)
AtWidths UpTo8 P = P 1 0 × (P 2 0 × (P 4 0 × P 8 0))

abbrev ReadsBack : Family → ℕ → ℕ → Type 0
ReadsBack f a b = read (spelled f a b) ≡ Some (record { family = f; a = a; b = b })

each_read : (f : Family) (x y : ℕ) → AtWidths (row f x y).widths (ReadsBack f)
unfolding entry row arm_row rv_row is_op digits spelled families_of begins_width front back width_at is_spelt family_of read
each_read Const x y = (refl, (refl, (refl, refl)))
each_read ConstBool x y = refl
each_read ConstNil x y = refl
each_read Add x y = (refl, (refl, (refl, refl)))
each_read Sub x y = (refl, (refl, (refl, refl)))
each_read Mul x y = (refl, (refl, (refl, refl)))
each_read And x y = (refl, (refl, (refl, refl)))
each_read Or x y = (refl, (refl, (refl, refl)))
each_read Xor x y = (refl, (refl, (refl, refl)))
each_read Neg x y = (refl, (refl, (refl, refl)))
each_read Com x y = (refl, (refl, (refl, refl)))
each_read Div x y = (refl, (refl, (refl, refl)))
each_read Divu x y = (refl, (refl, (refl, refl)))
each_read Mod x y = (refl, (refl, (refl, refl)))
each_read Modu x y = (refl, (refl, (refl, refl)))
each_read Hmul x y = (refl, refl)
each_read Hmulu x y = (refl, refl)
each_read Lsh x y = ((refl, (refl, (refl, refl))), ((refl, (refl, (refl, refl))), ((refl, (refl, (refl, refl))), (refl, (refl, (refl, refl))))))
each_read Rsh x y = ((refl, (refl, (refl, refl))), ((refl, (refl, (refl, refl))), ((refl, (refl, (refl, refl))), (refl, (refl, (refl, refl))))))
each_read RshU x y = ((refl, (refl, (refl, refl))), ((refl, (refl, (refl, refl))), ((refl, (refl, (refl, refl))), (refl, (refl, (refl, refl))))))
each_read Eq x y = (refl, (refl, (refl, refl)))
each_read Neq x y = (refl, (refl, (refl, refl)))
each_read Less x y = (refl, (refl, (refl, refl)))
each_read LessU x y = (refl, (refl, (refl, refl)))
each_read Leq x y = (refl, (refl, (refl, refl)))
each_read LeqU x y = (refl, (refl, (refl, refl)))
each_read EqB x y = refl
each_read NeqB x y = refl
each_read AndB x y = refl
each_read OrB x y = refl
each_read Not x y = refl
each_read EqPtr x y = refl
each_read NeqPtr x y = refl
each_read IsNonNil x y = refl
each_read IsInBounds x y = refl
each_read IsSliceInBounds x y = refl
each_read SignExt x y = ((refl, (refl, refl)), ((refl, refl), refl))
each_read ZeroExt x y = ((refl, (refl, refl)), ((refl, refl), refl))
each_read Trunc x y = ((refl, (refl, refl)), ((refl, refl), refl))
each_read CvtBoolToUint8 x y = refl
each_read Signmask x y = refl
each_read Zeromask x y = refl
each_read Ctz32 x y = refl
each_read BitLen32 x y = refl
each_read RotateLeft x y = (refl, refl)
each_read CondSelect x y = refl
each_read AddPtr x y = refl
each_read SubPtr x y = refl
each_read OffPtr x y = refl
each_read Int64Make x y = refl
each_read Int64Hi x y = refl
each_read Int64Lo x y = refl
each_read AddHi32 x y = refl
each_read SubHi32 x y = refl
each_read Phi x y = refl
each_read Copy x y = refl
each_read Arg x y = refl
each_read InitMem x y = refl
each_read Sp x y = refl
each_read Sb x y = refl
each_read Addr x y = refl
each_read Load x y = refl
each_read Store x y = refl
each_read Zero x y = refl
each_read Move x y = refl
each_read NilCheck x y = refl
each_read PanicBounds x y = refl
each_read StaticLECall x y = refl
each_read SelectN x y = refl
each_read MakeResult x y = refl
each_read ArgWord x y = refl
each_read ArgReg x y = refl
each_read ResWord x y = refl
each_read ResReg x y = refl
each_read OutWord x y = refl
each_read RetWord x y = refl
each_read RetRegs x y = refl
each_read Call x y = refl
each_read CallRegs x y = refl
each_read Trap x y = refl
each_read (Arm arm.Const) x y = refl
each_read (Arm arm.Addr) x y = refl
each_read (Arm arm.Add) x y = refl
each_read (Arm arm.Sub) x y = refl
each_read (Arm arm.Mul) x y = refl
each_read (Arm arm.And) x y = refl
each_read (Arm arm.Orr) x y = refl
each_read (Arm arm.Eor) x y = refl
each_read (Arm arm.Smulh) x y = refl
each_read (Arm arm.Umulh) x y = refl
each_read (Arm arm.Sdiv) x y = refl
each_read (Arm arm.Udiv) x y = refl
each_read (Arm arm.Smod) x y = refl
each_read (Arm arm.Umod) x y = refl
each_read (Arm arm.Lsl) x y = refl
each_read (Arm arm.Lsr) x y = refl
each_read (Arm arm.Asr) x y = refl
each_read (Arm arm.SetEq) x y = refl
each_read (Arm arm.SetNe) x y = refl
each_read (Arm arm.SetLt) x y = refl
each_read (Arm arm.SetLe) x y = refl
each_read (Arm arm.SetLo) x y = refl
each_read (Arm arm.SetLs) x y = refl
each_read (Arm arm.Rotl) x y = refl
each_read (Arm arm.Rsb0) x y = refl
each_read (Arm arm.Mvn) x y = refl
each_read (Arm arm.Sxtb) x y = refl
each_read (Arm arm.Sxth) x y = refl
each_read (Arm arm.Uxtb) x y = refl
each_read (Arm arm.Uxth) x y = refl
each_read (Arm arm.Zmask) x y = refl
each_read (Arm arm.Ctz) x y = refl
each_read (Arm arm.Blen) x y = refl
each_read (Arm arm.Sel) x y = refl
each_read (Arm arm.AddHi) x y = refl
each_read (Arm arm.SubHi) x y = refl
each_read (Arm arm.Addi) x y = refl
each_read (Arm arm.Subi) x y = refl
each_read (Arm arm.Andi) x y = refl
each_read (Arm arm.Eori) x y = refl
each_read (Arm arm.Lsli) x y = refl
each_read (Arm arm.Lsri) x y = refl
each_read (Arm arm.Asri) x y = refl
each_read (Arm arm.Load) x y = (refl, (refl, refl))
each_read (Arm arm.Store) x y = (refl, (refl, refl))
each_read (Arm arm.StoreB) x y = refl
each_read (Arm arm.Zero) x y = refl
each_read (Arm arm.Move) x y = refl
each_read (Arm arm.Nil) x y = refl
each_read (Rv rv.Const) x y = refl
each_read (Rv rv.Addr) x y = refl
each_read (Rv rv.Add) x y = refl
each_read (Rv rv.Sub) x y = refl
each_read (Rv rv.Mul) x y = refl
each_read (Rv rv.And) x y = refl
each_read (Rv rv.Or) x y = refl
each_read (Rv rv.Xor) x y = refl
each_read (Rv rv.Mulh) x y = refl
each_read (Rv rv.Mulhu) x y = refl
each_read (Rv rv.Div) x y = refl
each_read (Rv rv.Divu) x y = refl
each_read (Rv rv.Rem) x y = refl
each_read (Rv rv.Remu) x y = refl
each_read (Rv rv.Slt) x y = refl
each_read (Rv rv.Sltu) x y = refl
each_read (Rv rv.Lsl) x y = refl
each_read (Rv rv.Lsr) x y = refl
each_read (Rv rv.Asr) x y = refl
each_read (Rv rv.Rotl) x y = refl
each_read (Rv rv.Neg) x y = refl
each_read (Rv rv.Seqz) x y = refl
each_read (Rv rv.Snez) x y = refl
each_read (Rv rv.Sel) x y = refl
each_read (Rv rv.Addi) x y = refl
each_read (Rv rv.Andi) x y = refl
each_read (Rv rv.Ori) x y = refl
each_read (Rv rv.Xori) x y = refl
each_read (Rv rv.Slli) x y = refl
each_read (Rv rv.Srli) x y = refl
each_read (Rv rv.Srai) x y = refl
each_read (Rv rv.Load) x y = (refl, (refl, (refl, refl)))
each_read (Rv rv.Store) x y = (refl, (refl, (refl, refl)))
each_read (Rv rv.StoreB) x y = refl
each_read (Rv rv.Zero) x y = refl
each_read (Rv rv.Move) x y = refl
each_read (Rv rv.Nil) x y = refl

-- from what holds at each choice, what holds at the widths that are allowed
no : {X : Type 0} → false ≡ true → X
no e = absurd (false≢true e)

one_width : (P : ℕ → Type 0) → AtEach P → (a : ℕ) → is_width a ≡ true → P a
one_width P (x, (y, (z, w))) a e =
    elim (or_cases _ _ e) [
      | inr p ↦ subst P (sym (eqb-true a 64 p)) w
      | inl q ↦ elim (or_cases _ _ q) [
        | inr p ↦ subst P (sym (eqb-true a 32 p)) z
        | inl q ↦ elim (or_cases _ _ q) [
          | inr p ↦ subst P (sym (eqb-true a 16 p)) y
          | inl p ↦ subst P (sym (eqb-true a 8 p)) x
        ]
      ]
    ]

alone : (P : ℕ → ℕ → Type 0) (a x b : ℕ) → P x 0 → (a == x) ≡ true → (b == 0) ≡ true → P a b
alone P a x b h p q = subst (λ m. P m b) (sym (eqb-true a x p)) (subst (P x) (sym (eqb-true b 0 q)) h)

two_widths : (P : ℕ → ℕ → Type 0) → AtEach (λ a. AtEach (P a)) → (a b : ℕ) → is_width a ≡ true → is_width b ≡ true → P a b
two_widths P h a b p q = one_width (P a) (one_width (λ a. AtEach (P a)) h a p) b q

at_widths : (w : Widths) (P : ℕ → ℕ → Type 0) → AtWidths w P → (a b : ℕ) → allows w a b ≡ true → P a b
at_widths Alone P h a b e = let (p, q) = and_parts _ _ e in alone P a 0 b h p q
at_widths Each P h a b e =
    let (p, q) = and_parts _ _ e in
    subst (P a) (sym (eqb-true b 0 q)) (one_width (λ a. P a 0) h a p)
at_widths Long P (x, y) a b e =
    let (p, q) = and_parts _ _ e in
    elim (or_cases _ _ p) [ inl p ↦ alone P a 32 b x p q | inr p ↦ alone P a 64 b y p q ]
at_widths (Only n) P h a b e = let (p, q) = and_parts _ _ e in alone P a n b h p q
at_widths Pairs P h a b e = let (p, q) = and_parts _ _ e in two_widths P h a b p q
at_widths Rising P ((h12, (h13, h14)), ((h23, h24), h34)) a b e =
    let (p, q) = and_parts _ _ e in
    let (p, r) = and_parts _ _ p in
    two_widths (λ a b. nat_lt a b ≡ true → P a b)
    ((no, (λ _. h12, (λ _. h13, λ _. h14))), ((no, (no, (λ _. h23, λ _. h24))), ((no, (no, (no, λ _. h34))), (no, (no, (no, no))))))
    a b p r q
at_widths Falling P ((h41, (h42, h43)), ((h31, h32), h21)) a b e =
    let (p, q) = and_parts _ _ e in
    let (p, r) = and_parts _ _ p in
    two_widths (λ a b. nat_lt b a ≡ true → P a b)
    ((no, (no, (no, no))), ((λ _. h21, (no, (no, no))), ((λ _. h31, (λ _. h32, (no, no))), (λ _. h41, (λ _. h42, (λ _. h43, no))))))
    a b p r q
at_widths UpTo4 P (x, (y, z)) a b e =
    let (p, q) = and_parts _ _ e in
    elim (or_cases _ _ p) [
      | inr p ↦ alone P a 4 b z p q
      | inl p ↦ elim (or_cases _ _ p) [ inr p ↦ alone P a 2 b y p q | inl p ↦ alone P a 1 b x p q ]
    ]
at_widths UpTo8 P (x, (y, (z, w))) a b e =
    let (p, q) = and_parts _ _ e in
    elim (or_cases _ _ p) [
      | inr p ↦ alone P a 8 b w p q
      | inl p ↦ elim (or_cases _ _ p) [
        | inr p ↦ alone P a 4 b z p q
        | inl p ↦ elim (or_cases _ _ p) [ inr p ↦ alone P a 2 b y p q | inl p ↦ alone P a 1 b x p q ]
      ]
    ]

-- the name of an op is read as the op
read_spelled : (f : Family) (a b : ℕ) → is_op f a b ≡ true → ReadsBack f a b
unfolding is_op
read_spelled f a b e = at_widths (row f a b).widths (ReadsBack f) (each_read f a b) a b e

pub read_name : (n : List ℕ) (o : Op) → HasName o n → read n ≡ Some o
unfolding name_of
read_name n o (e, h) =
    subst (λ n. read n ≡ Some o) (ap (λ t. if t then spelled o.family o.a o.b else []) (sym e) ∙ h) (read_spelled o.family o.a o.b e)

-- what is read is the op of the name
joined : (o : Option ℕ) (n : List ℕ) → front_to o n ++ back_from o n ≡ n
joined None n = append-nil n
joined (Some k) n = take-append-drop k n

front_back : (n : List ℕ) → front n ++ back n ≡ n
unfolding front back
front_back n = joined (position begins_width n) n

picked : {X : Type 0} (t : Bool) (x y : X) (P : X → Type 0) → (t ≡ true → P x) → (t ≡ false → P y) → P (if t then x else y)
picked true x y P p q = p refl
picked false x y P p q = q refl

one_joined : (c : ℕ) (n : List ℕ) → digits (one_digit c n).0 ++ (one_digit c n).1 ≡ c ∷ n
unfolding digits
one_joined c n =
    let P : ℕ × List ℕ → Type 0 = λ w. digits w.0 ++ w.1 ≡ c ∷ n in
    picked (c == 49) _ _ P (λ e. ap (λ d. d ∷ n) (sym (eqb-true c 49 e)))
    (λ _. picked (c == 50) _ _ P (λ e. ap (λ d. d ∷ n) (sym (eqb-true c 50 e)))
    (λ _. picked (c == 52) _ _ P (λ e. ap (λ d. d ∷ n) (sym (eqb-true c 52 e)))
    (λ _. picked (c == 56) _ _ P (λ e. ap (λ d. d ∷ n) (sym (eqb-true c 56 e))) (λ _. refl))))

pair_is : (c d x y : ℕ) (n : List ℕ) → (c == x && d == y) ≡ true → x ∷ y ∷ n ≡ c ∷ d ∷ n
pair_is c d x y n e =
    let (p, q) = and_parts _ _ e in
    ap (λ c. c ∷ y ∷ n) (sym (eqb-true c x p)) ∙ ap (λ d. c ∷ d ∷ n) (sym (eqb-true d y q))

width_joined : (n : List ℕ) → digits (width_at n).0 ++ (width_at n).1 ≡ n
unfolding digits width_at
width_joined [] = refl
width_joined (c ∷ []) = one_joined c []
width_joined (c ∷ d ∷ n) =
    let P : ℕ × List ℕ → Type 0 = λ w. digits w.0 ++ w.1 ≡ c ∷ d ∷ n in
    picked (c == 49 && d == 54) _ _ P (pair_is c d 49 54 n)
    (λ _. picked (c == 51 && d == 50) _ _ P (pair_is c d 51 50 n)
    (λ _. picked (c == 54 && d == 52) _ _ P (pair_is c d 54 52 n) (λ _. one_joined c (d ∷ n))))

peeled : {X : Type 0} → X → Option X → X
peeled d None = d
peeled d (Some x) = x

some_is : {X : Type 0} (x y : X) → Some x ≡ Some y → x ≡ y
unfolding peeled
some_is x y e = ap (peeled x) e

found : {X : Type 0} (p : X → Bool) (xs : List X) (x : X) → find p xs ≡ Some x → p x ≡ true
found p [] x e = cc
found p (y ∷ xs) x e =
    picked (p y) (Some y) (find p xs) (λ o. o ≡ Some x → p x ≡ true)
    (λ t s. subst (λ z. p z ≡ true) (some_is y x s) t) (λ _ s. found p xs x s) e

empty : (n : List ℕ) → (length n == 0) ≡ true → n ≡ []
empty [] e = refl
empty (c ∷ n) e = absurd (omega (arith, eqb-true (length (c ∷ n)) 0 e))

rebuilt : (h a t b n r : List ℕ) → h ++ (a ++ (t ++ (b ++ r))) ≡ n → r ≡ [] → h ++ (a ++ (t ++ b)) ≡ n
rebuilt h a t b n r e p = ap (λ z. h ++ (a ++ (t ++ z))) (sym (append-nil b) ∙ ap (λ z. b ++ z) (sym p)) ∙ e

in_table : (a b : ℕ) (h t n : List ℕ) (f : Family) → is_spelt a b h t f ≡ true → is_op f a b ≡ true
    → h ++ (digits a ++ (t ++ digits b)) ≡ n → HasName (record { family = f; a = a; b = b }) n
unfolding is_spelt name_of spelled
in_table a b h t n f s e w =
    let (p, q) = and_parts _ _ s in
    let head : (row f a b).head ≡ h = (bytes_eq-Decides (row f a b).head h).0 p in
    let tail : (row f a b).tail ≡ t = (bytes_eq-Decides (row f a b).tail t).0 q in (
      e,
      ap (λ t. if t then (row f a b).head ++ (digits a ++ ((row f a b).tail ++ digits b)) else []) e
          ∙ ap (λ x. x ++ (digits a ++ ((row f a b).tail ++ digits b))) head
          ∙ ap (λ x. h ++ (digits a ++ (x ++ digits b))) tail
          ∙ w,
    )

placed : (m : Option Family) (a b : ℕ) (h t r n : List ℕ) (o : Op) → family_of a b h t ≡ m
    → h ++ (digits a ++ (t ++ (digits b ++ r))) ≡ n → op_at m a b r ≡ Some o → HasName o n
unfolding family_of
placed None a b h t r n o p w e = cc
placed (Some f) a b h t r n o p w e =
    picked (length r == 0 && is_op f a b) (Some (record { family = f; a = a; b = b })) None (λ x. x ≡ Some o → HasName o n)
    (λ q s.
    let (u, v) = and_parts _ _ q in
    subst (λ o. HasName o n) (some_is _ o s)
    (in_table a b h t n f (found (is_spelt a b h t) (families_of (length h)) f p) v (rebuilt h (digits a) t (digits b) n r w (empty r u))))
    (λ q s. cc) e

pub name_read : (n : List ℕ) (o : Op) → read n ≡ Some o → HasName o n
unfolding read
name_read n o e =
    let w : ℕ × List ℕ = width_at (back n) in
    let z : ℕ × List ℕ = width_at (back w.1) in
    placed (family_of w.0 z.0 (front n) (front w.1)) w.0 z.0 (front n) (front w.1) z.1 n o refl
    (ap (λ x. front n ++ (digits w.0 ++ (front w.1 ++ x))) (width_joined (back w.1))
    ∙ ap (λ x. front n ++ (digits w.0 ++ x)) (front_back w.1)
    ∙ ap (λ x. front n ++ x) (width_joined (back n))
    ∙ front_back n)
    e
