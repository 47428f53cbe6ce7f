-- What a plan ensures on a snapshot, whatever the vectors say; and snapshots changed at one object.
use Rattle.std.specs.Prelude.{◌≡◌, refl, Bool, true, false, cond, [], ◌∷◌, ℕ}
use Rattle.std.proofs.Math.Decide.{ℕ_discrete}
use Rattle.base.specs.Test.{ifd, yes?}
use Rattle.base.proofs.Laws.Test.{ifd_all}
use Rattle.operations.specs.Object.{Obj, Ask, object, vector, fetched, Val, Why, Ans, Writes, hit, over, objects}
use Rattle.operations.specs.Path.{TreePlan, see}
use Rattle.plans.specs.Plan as P

-- what is asked of a reason to fail, and what is known of a server's vector
pub record Terms : Type 1 where
  pub fails : Why → Type 0
  pub shows : ℕ → Val → Type 0

-- the plan's outcome over the snapshot M is as Q says, and a failure's reason as F says, for every vector that F allows
abbrev pub Ok : Terms → (Ans → Writes → Type 0) → (Obj → Val) → TreePlan → Type 0
Ok F Q M (P.ask (object o) k) = Ok F Q M (k (M o))
Ok F Q M (P.ask (vector s) k) = (v : Val) → F.shows s v → Ok F Q M (k v)
Ok F Q M (P.ask (fetched s) k) = (v : Val) → F.shows s v → Ok F Q M (k v)
Ok F Q M (P.done r) = Q r.0 r.1
Ok F Q M (P.fail y) = F.fails y

-- an outcome is as Q and F say
abbrev pub Says : Terms → (Ans → Writes → Type 0) → P.Out (Ans × Writes) Why → Type 0
Says F Q (P.gives r) = Q r.0 r.1
Says F Q (P.fails y) = F.fails y

-- the snapshot's vectors are as F allows
abbrev pub Shown : Terms → (Ask → Val) → Type 0
Shown F S = (s : ℕ) → F.shows s (S (vector s)) × F.shows s (S (fetched s))

pub ok_says : (F : Terms) (Q : Ans → Writes → Type 0) (S : Ask → Val) → Shown F S → (p : TreePlan) → Ok F Q (objects S) p → Says F Q (P.exec p S)
unfolding P.exec
ok_says F Q S t (P.ask (object o) k) h = ok_says F Q S t (k (S (object o))) h
ok_says F Q S t (P.ask (vector s) k) h = ok_says F Q S t (k (S (vector s))) (h (S (vector s)) (t s).0)
ok_says F Q S t (P.ask (fetched s) k) h = ok_says F Q S t (k (S (fetched s))) (h (S (fetched s)) (t s).1)
ok_says F Q S t (P.done r) h = h
ok_says F Q S t (P.fail y) h = h

pub ok_mono : (F : Terms) (Q R : Ans → Writes → Type 0) (M : Obj → Val) → ((a : Ans) (w : Writes) → Q a w → R a w) → (p : TreePlan) → Ok F Q M p → Ok F R M p
ok_mono F Q R M f (P.ask (object o) k) h = ok_mono F Q R M f (k (M o)) h
ok_mono F Q R M f (P.ask (vector s) k) h = λ v t. ok_mono F Q R M f (k v) (h v t)
ok_mono F Q R M f (P.ask (fetched s) k) h = λ v t. ok_mono F Q R M f (k v) (h v t)
ok_mono F Q R M f (P.done r) h = f r.0 r.1 h
ok_mono F Q R M f (P.fail y) h = h

module _ (F : Terms) (Q : Ans → Writes → Type 0) (M : Obj → Val) where
  pub see_ok : (w : Writes) (o : Obj) (k : Val → TreePlan) → Ok F Q M (k (over w M o)) → Ok F Q M (see w o k)
  see_ok [] o k h = h
  see_ok (e ∷ w) o k h = go (hit e.0 o) (see_ok w o k) h
    where
      go : (b : Bool) → (Ok F Q M (k (over w M o)) → Ok F Q M (see w o k)) → Ok F Q M (k (cond b e.1 (over w M o)))
          → Ok F Q M (cond b (k e.1) (see w o k))
      go true r h = h
      go false r h = r h

  pub if_ok : {P : Type 0} (d : Dec P) (p q : TreePlan) → (P → Ok F Q M p) → (¬ P → Ok F Q M q) → Ok F Q M (ifd d p q)
  if_ok d p q f g = ifd_all d p q (Ok F Q M) f g

  pub cond_ok : (b : Bool) (p q : TreePlan) → (b ≡ true → Ok F Q M p) → (b ≡ false → Ok F Q M q) → Ok F Q M (cond b p q)
  cond_ok true p q f g = f refl
  cond_ok false p q f g = g refl

-- one of two by the name
pub sel_same : {A : Type 0} (n : ℕ) (v u : A) → cond (yes? (ℕ_discrete n n)) v u ≡ v
sel_same n v u = go (ℕ_discrete n n)
  where
    go : (d : Dec (n ≡ n)) → cond (yes? d) v u ≡ v
    go (yes p) = refl
    go (no q) = absurd (q refl)

pub sel_all : {A : Type 0} (n x : ℕ) (v u : A) (Q : A → Type 0) → (x ≡ n → Q v) → (¬ (x ≡ n) → Q u) → Q (cond (yes? (ℕ_discrete x n)) v u)
sel_all n x v u Q f g = go (ℕ_discrete x n)
  where
    go : (d : Dec (x ≡ n)) → Q (cond (yes? d) v u)
    go (yes p) = f p
    go (no q) = g q

pub sel_other : {A : Type 0} (n x : ℕ) (v u : A) → ¬ (x ≡ n) → cond (yes? (ℕ_discrete x n)) v u ≡ u
sel_other n x v u h = sel_all n x v u (λ z. z ≡ u) (λ e. absurd (h e)) (λ _. refl)
