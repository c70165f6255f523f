-- What is common to the steps on tables: an attempt that is refused or not.
use mathlib.Core.Path.{◌≡◌, refl}
use mathlib.Core.Bool.{Bool, true, false}
use Rattle.steps.specs.Shown.{tried}

module _ {A : Type 0} where
  -- one attempt that fits as another does and then makes the same
  pub tried_same : {b c : Bool} {x y : A} → b ≡ c → x ≡ y → tried b x ≡ tried c y
  tried_same e f = cc

  -- two attempts that are both refused, whatever they hold
  pub tried-none : {b c : Bool} (x y : A) → b ≡ c → b ≡ false → tried b x ≡ tried c y
  tried-none x y e f = rw (← e, f)

  -- attempts that are the same fit alike, and make the same
  pub tried-fits : (b c : Bool) (x y : A) → tried b x ≡ tried c y → b ≡ c
  tried-fits true true x y e = refl
  tried-fits true false x y e = cc
  tried-fits false true x y e = cc
  tried-fits false false x y e = refl

  pub tried-made : (b c : Bool) (x y : A) → b ≡ true → tried b x ≡ tried c y → x ≡ y
  tried-made true true x y f e = cc
  tried-made true false x y f e = cc
  tried-made false c x y f e = cc
