-- Laws of slots taken and freed.
use Rattle.std.specs.Prelude.{◌≡◌, refl, Bool, true, false, cond, List, ◌∷◌, ℕ, zero, suc, ◌+◌, ◌<◌, eqb, length, get_or}
use Rattle.std.proofs.Common.{◌∙◌, arith, eq-eqb, ne_eqb}
use Rattle.base.specs.Test.{one_if}
use Rattle.nodes.specs.declared.node.Node.{Node}
use Rattle.nodes.specs.Lists.{pad}
use Rattle.nodes.specs.Node.{extra, keys_of, slots_of, made, free_node}
use Rattle.nodes.proofs.Laws.Stored.{Sized}
use Rattle.operations.specs.Object.{Obj, node, flag, Val, body, taken, free, not_free}
use Rattle.operations.specs.Slot.{when_free_flag, when_free_node}
use Rattle.operations.specs.Path.{TreePlan}
use Rattle.walk.specs.declared.walk.Stop.TheVariants.{Aborts}
use Rattle.client.specs.Layout.{ClientWord}
use Rattle.client.specs.Record.{number, value_of, single, record_of}
use Rattle.client.specs.Lent.{OwnFits, own_put, used_in}
use Rattle.walk.specs.Walk.{Course, Going, Ended, goes}
use Rattle.walk.specs.Laws.Walk.{walked_fails}
use Rattle.walk.specs.Laws.Ask.{first_single, name_below}
use Rattle.walk.specs.Ask.{SmallNode, OwnGood, Asked}
use Rattle.walk.specs.Laws.Down.{stops_not}
use Rattle.walk.specs.Laws.Write.{holds_more, good_more, count_more}
use Rattle.walk.specs.Take.{NodeTaken, FlagTaken, Released, Wrote}
use Rattle.plans.specs.Plan as P

free_node_is : (kind level : ℕ) (ks vs : List ℕ) (k : TreePlan) → when_free_node (body kind level ks vs) k ≡ cond (eqb kind 0) k (P.fail not_free)
free_node_is zero level ks vs k = refl
free_node_is (suc j) level ks vs k = let e : suc j ≡ 0 → ⊥ = λ q. omega arith in rw (ne_eqb (suc j) 0 e)

module _ (slots : ℕ) (m : ClientWord → ℕ) (x u : List ℕ) (n : ℕ) (r : Node) (u' : List ℕ) where
  pub node_lacks : (s : Course) → goes s ≡ false → Asked slots m x u (node n) s r u' → NodeTaken slots m x u n s u'
  node_lacks s halts h = record { asks = λ w hold k. rw ((h.asks w hold).same, halts); noted = h.noted; long = h.long; inside = h.inside }

  module _ (h : Asked slots m x u (node n) Going r u') where
    pub node_in_use : (r.kind ≡ 0 → ⊥) → NodeTaken slots m x u n (Ended (Aborts 1)) u'
    node_in_use d = record {
      asks = λ w hold k. rw ((h.asks w hold).same, free_node_is r.kind r.level (keys_of r) (slots_of r) k, ne_eqb r.kind 0 d) (walked_fails slots m (used_in u') not_free);
      noted = h.noted;
      long = h.long;
      inside = λ t. stops_not (Ended (Aborts 1)) refl t;
    }

    pub node_free : r.kind ≡ 0 → NodeTaken slots m x u n Going u'
    node_free d = record {
      asks = λ w hold k. rw ((h.asks w hold).same, free_node_is r.kind r.level (keys_of r) (slots_of r) k, eq-eqb r.kind 0 d);
      noted = h.noted;
      long = h.long;
      inside = λ _. h.inside refl;
    }

pub ruleset taken_node_exits = (node_lacks, node_in_use, node_free)

free_flag_is : (b : Bool) (k : TreePlan) → when_free_flag (taken b) k ≡ cond b (P.fail not_free) k
free_flag_is true k = refl
free_flag_is false k = refl

single_small : (v : ℕ) → SmallNode (single 0 v)
unfolding single made
single_small v = record { keys = omega arith; level = omega arith }

taken_value : (n : ℕ) → value_of (flag n) (single 0 1) ≡ taken true
unfolding single made pad
taken_value n = refl

flag_record : (b : Bool) → single 0 (one_if b) ≡ record_of 0 (taken b)
unfolding record_of
flag_record b = refl

flag_again : (b : Bool) → eqb (one_if b) 1 ≡ b
flag_again true = refl
flag_again false = refl

module _ (slots : ℕ) (m : ClientWord → ℕ) (x u : List ℕ) (n : ℕ) (u' : List ℕ) where
  pub flag_lacks : (s : Course) (r : Node) → goes s ≡ false → Asked slots m x u (flag n) s r u' → FlagTaken slots m x u n s x u'
  flag_lacks s r halts h = record {
    asks = λ w hold k. rw ((h.asks w hold).same, halts);
    holds = λ t. stops_not s halts t;
    good = λ t. stops_not s halts t;
    noted = h.noted;
    long = h.long;
    few = omega arith;
    inside = h.inside;
  }

  module _ (v : Bool) (h : Asked slots m x u (flag n) Going (single 0 (one_if v)) u') where
    pub flag_in_use : v ≡ true → FlagTaken slots m x u n (Ended (Aborts 1)) x u'
    flag_in_use e = record {
      asks = λ w hold k. rw ((h.asks w hold).same, first_single (one_if v), flag_again v, free_flag_is v (k ((flag n, taken true) ∷ w)), e) (walked_fails slots m (used_in u') not_free);
      holds = λ t. stops_not (Ended (Aborts 1)) refl t;
      good = λ t. stops_not (Ended (Aborts 1)) refl t;
      noted = h.noted;
      long = h.long;
      few = omega arith;
      inside = λ t. stops_not (Ended (Aborts 1)) refl t;
    }

    pub flag_taken : (k : ℕ) (q : Node) (x' : List ℕ) → OwnGood x → v ≡ false → get_or x 0 0 < 20 → k ≡ 8193 + n
        → q ≡ single 0 1 → length q.keys ≡ 14 → length q.slots ≡ 15 → x' ≡ own_put x k q → OwnFits x' → FlagTaken slots m x u n Going x' u'
    flag_taken k q x' g e few pk pq lk ls px f =
        let t = h.inside refl in
        let sized : Sized q = record { keys = lk; slots = ls } in
        let is_v : value_of (flag n) q ≡ taken true = rw pq (taken_value n) in
        let px' : x' ≡ own_put x (8193 + n) q = rw pk at px in
        record {
          asks = λ w hold k. rw ((h.asks w hold).same, first_single (one_if v), flag_again v, free_flag_is v (k ((flag n, taken true) ∷ w)), e);
          holds = λ _ w hold. rw px' (holds_more slots x w (flag n) (taken true) q g hold few t sized is_v (pq ∙ flag_record true));
          good = λ _. rw px' (good_more x (flag n) q g few sized (rw px' at f) (rw pq (single_small 1)));
          noted = h.noted;
          long = h.long;
          few = rw px' (count_more x (flag n) q g few sized);
          inside = λ _. t;
        }

pub flag_small : (slots : ℕ) (m : ClientWord → ℕ) (x u : List ℕ) (n : ℕ) (r : Node) (u' : List ℕ) → Asked slots m x u (flag n) Going r u' → n < 8192
flag_small slots m x u n r u' h = name_below slots n (h.inside refl)

pub ruleset taken_flag_exits = (flag_lacks, flag_in_use, flag_taken, flag_small)

untaken_value : (n : ℕ) → value_of (flag n) (single 0 0) ≡ taken false
unfolding single made pad
untaken_value n = refl

free_value : (n : ℕ) → value_of (node n) (free_node 0) ≡ free
unfolding free_node made keys_of slots_of extra
free_value n = refl

free_record : free_node 0 ≡ record_of 0 free
unfolding free_node record_of
free_record = refl

freed_small : SmallNode (free_node 0)
unfolding free_node made
freed_small = record { keys = omega arith; level = omega arith }

module _ (x : List ℕ) (g : OwnGood x) (few : get_or x 0 0 < 20) (k : ℕ) (q : Node) (x' : List ℕ) (px : x' ≡ own_put x k q) (f : OwnFits x') (lk : length q.keys ≡ 14) (ls : length q.slots ≡ 15) where
  pub wrote : (o : Obj) (v : Val) → k ≡ number o → value_of o q ≡ v → q ≡ record_of 0 v → SmallNode q → Wrote x o v x'
  wrote o v pk is_v is_q small =
      let sized : Sized q = record { keys = lk; slots = ls } in
      let p : x' ≡ own_put x (number o) q = rw pk at px in
      record {
        holds = λ slots w t hold. rw p (holds_more slots x w o v q g hold few t sized is_v is_q);
        good = rw p (good_more x o q g few sized (rw p at f) small);
        few = rw p (count_more x o q g few sized);
      }

  pub flag_freed : (n : ℕ) → k ≡ 8193 + n → q ≡ single 0 0 → Wrote x (flag n) (taken false) x'
  flag_freed n pk pq = wrote (flag n) (taken false) pk (rw pq (untaken_value n)) (pq ∙ flag_record false) (rw pq (single_small 0))

  pub node_freed : (n : ℕ) → k ≡ 1 + n → q ≡ free_node 0 → Wrote x (node n) free x'
  node_freed n pk pq = wrote (node n) free pk (rw pq (free_value n)) (pq ∙ free_record) (rw pq freed_small)

pub ruleset freed_exits = (flag_freed, node_freed)

module _ (slots : ℕ) (m : ClientWord → ℕ) (x u : List ℕ) (n : ℕ) (r : Node) (u' : List ℕ) where
  pub release_lacks : (s : Course) → goes s ≡ false → Asked slots m x u (flag n) s r u' → Released slots m x u n s x u'
  release_lacks s halts h = record {
    asks = λ w hold k. rw ((h.asks w hold).same, halts);
    holds = λ t. stops_not s halts t;
    good = λ t. stops_not s halts t;
    noted = h.noted;
    long = h.long;
    few = omega arith;
    inside = h.inside;
  }

  pub released : (x₁ x₂ : List ℕ) → Asked slots m x u (flag n) Going r u' → Wrote x (flag n) (taken false) x₁ → Wrote x₁ (node n) free x₂ → Released slots m x u n Going x₂ u'
  released x₁ x₂ h f d =
      let t = h.inside refl in
      record {
        asks = λ w hold k. rw (h.asks w hold).same;
        holds = λ _ w hold. d.holds slots ((flag n, taken false) ∷ w) t (f.holds slots w t hold);
        good = λ _. d.good;
        noted = h.noted;
        long = h.long;
        few = omega (arith, f.few, d.few);
        inside = λ _. t;
      }

pub release_room : (x x₁ : List ℕ) (o : Obj) (v : Val) → Wrote x o v x₁ → get_or x 0 0 < 19 → get_or x₁ 0 0 < 20
release_room x x₁ o v f h = omega (arith, f.few)

pub release_good : (x x₁ : List ℕ) (o : Obj) (v : Val) → Wrote x o v x₁ → OwnGood x₁
release_good x x₁ o v f = f.good

pub ruleset release_exits = (release_lacks, released, release_room, release_good, flag_small)
