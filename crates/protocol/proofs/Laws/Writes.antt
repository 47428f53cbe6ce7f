-- What a list of writes has of an object that it does not write.
use Rattle.std.specs.Prelude.{◌≡◌, Bool, ◌||◌}
use Rattle.std.proofs.Math.Path.{refl}
use Rattle.std.proofs.Math.Bool.{false, cond}
use Rattle.std.proofs.Common.{true≢false}
use mathlib.Core.HLevel.{Discrete}
use mathlib.Core.List.{List, [], ◌∷◌}
use Rattle.base.specs.Test.{yes?, ifd}
use Rattle.protocol.specs.Writes.{writes?, latest}

module _ {Obj Val : Type 0} (eq_obj : Discrete Obj) where
  pub latest_unwritten : (ws : List (Obj × Val)) (o : Obj) (v : Val) → writes? eq_obj ws o ≡ false → latest eq_obj ws o v ≡ v
  unfolding writes? latest
  latest_unwritten [] o v h = refl
  latest_unwritten (w ∷ ws) o v h = go (eq_obj o w.0) h (latest_unwritten ws o v)
    where
      go : (d : Dec (o ≡ w.0)) → (yes? d || writes? eq_obj ws o) ≡ false → (writes? eq_obj ws o ≡ false → latest eq_obj ws o v ≡ v) → ifd d w.1 (latest eq_obj ws o v) ≡ v
      go (yes p) h rec = absurd (true≢false h)
      go (no q) h rec = rec h

  -- writes over a value that is itself written or not
  pub latest_cond : (ws : List (Obj × Val)) (o : Obj) (b : Bool) (x y : Val)
      → latest eq_obj ws o (cond b x y) ≡ cond (writes? eq_obj ws o || b) (latest eq_obj ws o x) y
  unfolding writes? latest
  latest_cond [] o b x y = refl
  latest_cond (w ∷ ws) o b x y = go (eq_obj o w.0) (latest_cond ws o b x y)
    where
      go : (d : Dec (o ≡ w.0)) → latest eq_obj ws o (cond b x y) ≡ cond (writes? eq_obj ws o || b) (latest eq_obj ws o x) y
          → ifd d w.1 (latest eq_obj ws o (cond b x y)) ≡ cond ((yes? d || writes? eq_obj ws o) || b) (ifd d w.1 (latest eq_obj ws o x)) y
      go (yes p) rec = refl
      go (no q) rec = rec
