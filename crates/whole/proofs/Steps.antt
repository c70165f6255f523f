-- What an expression of the code on signed numbers comes to, found by `search steps`. A signed local holds bits, so each step of the
-- code is `to_z w (of_z w ..)` of what it computes. `Read z'` has the same value without those (`val`), a bound of it (`top`), and the
-- test (`ok`) that every step on the way fits its width: at bounds that are numerals it computes, and `tt` proves it.
use mathlib.Core.Path.{◌≡◌, refl, sym, ap, ap₂, ◌∙◌, subst}
use mathlib.Core.Bool.{Bool, true, false}
use Prim.Native.Nat.{ℕ, ◌+◌, ◌*◌, ◌≤◌, ◌^◌}
use native.Mathlib.Nat.{le_refl, le_trans, le_of_eq, add-le-add, mul-le-mul, lt_of_le_of_lt}
use lib.Dec.{T, ltb, ltb→lt}
use lib.IntN.{ℤ, pos, neg_ℤ, nat_abs, ◌+ℤ◌, ◌-ℤ◌, ◌*ℤ◌}
use lib.Signed.{quot_z, rem_z}
use mir.Syntax.{Width}
use mir.Val.{SFits, hbits, to_z, of_z}
use mir.Facts.{to_z-of_z}
use Rattle.whole.proofs.Integers.{nat_abs-neg, nat_abs-*, nat_abs-+, nat_abs--}
use Rattle.whole.proofs.Division.{quot_le, rem-le}
use Rattle.whole.proofs.Bounds.{mag-le}

infixr 5 ◌and◌
abbrev pub ◌and◌ : Bool → Bool → Bool
true and b = b
false and b = false

pub and_l : (a b : Bool) → T (a and b) → T a
and_l true b t = tt
and_l false b t = t

pub and_r : (a b : Bool) → T (a and b) → T b
and_r true b t = t
and_r false b t = absurd t

pub record Read (z' : ℤ) : Type 0 where
  pub val : ℤ
  pub top : ℕ
  pub ok : Bool
  pub is : T ok → z' ≡ val
  pub within : nat_abs val ≤ top

-- ---- the rules: a number with a known bound, a numeral, each operation, and the bits of a step
abbrev pub r-hyp : {z : ℤ} {m : ℕ} → nat_abs z ≤ m → Read z
r-hyp {z} {m} h = record { val = z; top = m; ok = true; is = λ t. refl; within = h }

abbrev pub r-pos : {m : ℕ} → Read (pos m)
r-pos {m} = record { val = pos m; top = m; ok = true; is = λ t. refl; within = le_refl m }

abbrev pub r-neg : {a : ℤ} → Read a → Read (neg_ℤ a)
r-neg x = record {
  val = neg_ℤ x.val;
  top = x.top;
  ok = x.ok;
  is = λ t. ap neg_ℤ (x.is t);
  within = le_trans (le_of_eq (nat_abs-neg x.val)) x.within;
}

module _ {a b : ℤ} where
  -- an operation of two numbers, with a bound of its result
  abbrev r-two : (f : ℤ → ℤ → ℤ) (n : ℕ) (x : Read a) (y : Read b) → nat_abs (f x.val y.val) ≤ n → Read (f a b)
  r-two f n x y h = record {
    val = f x.val y.val;
    top = n;
    ok = x.ok and y.ok;
    is = λ t. ap₂ f (x.is (and_l x.ok y.ok t)) (y.is (and_r x.ok y.ok t));
    within = h;
  }

  abbrev pub r-add : Read a → Read b → Read (a +ℤ b)
  r-add x y = r-two (λ p q. p +ℤ q) (x.top + y.top) x y (le_trans (nat_abs-+ x.val y.val) (add-le-add x.within y.within))

  abbrev pub r-sub : Read a → Read b → Read (a -ℤ b)
  r-sub x y = r-two (λ p q. p -ℤ q) (x.top + y.top) x y (le_trans (nat_abs-- x.val y.val) (add-le-add x.within y.within))

  abbrev pub r-mul : Read a → Read b → Read (a *ℤ b)
  r-mul x y =
      r-two (λ p q. p *ℤ q) (x.top * y.top) x y (le_trans (le_of_eq (nat_abs-* x.val y.val)) (mul-le-mul x.within y.within))

  abbrev pub r-quot : Read a → Read b → Read (quot_z a b)
  r-quot x y = r-two quot_z x.top x y (le_trans (quot_le x.val y.val) x.within)

  abbrev pub r-rem : Read a → Read b → Read (rem_z a b)
  r-rem x y = r-two rem_z x.top x y (le_trans (rem-le x.val y.val) x.within)

fits : (w : Width) {z : ℤ} (n : ℕ) → nat_abs z ≤ n → T (ltb n (2 ^ hbits w)) → SFits w z
fits w {z} n h t = record { sfits = lt_of_le_of_lt (le_trans (mag-le z) h) (ltb→lt n (2 ^ hbits w) t) }

pub bits_is : (w : Width) {a : ℤ} (x : Read a) → T (x.ok and ltb x.top (2 ^ hbits w)) → to_z w (of_z w a) ≡ x.val
bits_is w {a} x t =
    let small = ltb x.top (2 ^ hbits w) in
    ap (λ z. to_z w (of_z w z)) (x.is (and_l x.ok small t)) ∙ to_z-of_z (fits w x.top x.within (and_r x.ok small t))

abbrev pub r-bits : (w : Width) {a : ℤ} → Read a → Read (to_z w (of_z w a))
r-bits w x = record { val = x.val; top = x.top; ok = x.ok and ltb x.top (2 ^ hbits w); is = bits_is w x; within = x.within }

pub ruleset steps = (r-bits, r-sub, r-add, r-mul, r-neg, r-pos, r-quot, r-rem, r-hyp)

-- ---- what the code needs of them: that a step fits its width
pub fits_by : {w : Width} {z : ℤ} (x : Read z) → T (x.ok and ltb x.top (2 ^ hbits w)) → SFits w z
fits_by {w} x t =
    let small = ltb x.top (2 ^ hbits w) in
    subst (SFits w) (sym (x.is (and_l x.ok small t))) (fits w x.top x.within (and_r x.ok small t))

-- that a result is what the contract says
pub read_by : {z : ℤ} (x : Read z) → T x.ok → z ≡ x.val
read_by x t = x.is t
