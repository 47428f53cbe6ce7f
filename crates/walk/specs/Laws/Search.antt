-- Laws of the search over servers in a row.
use Rattle.std.specs.Prelude.{◌≡◌, refl, Bool, true, false, not, ℕ, zero, suc, ◌+◌, ◌≤◌, ◌<◌, length, take, drop, get_or, Ok, Err}
use Rattle.std.proofs.Common.{sym, ◌∙◌, arith, add-one, drop_of_length-le, drop-cons, get_or-take, length-take-le}
use mathlib.Core.List.{List, [], ◌∷◌}
use Rattle.std.proofs.lemmas.Bool.{not-true, not-false}
use Rattle.nodes.specs.Found.{Found}
use Rattle.std.specs.Prelude.{Some, None}
use Rattle.nodes.proofs.Laws.Found.{absent_inside}
use Rattle.nodes.specs.Name.{name}
use Rattle.nodes.specs.Placement.{row}
use Rattle.nodes.specs.Node.{made}
use Rattle.nodes.specs.Lists.{pad}
use Rattle.nodes.specs.States.{is_open}
use Rattle.operations.specs.Object.{meta, object, states_of, no_slot, Writes}
use Rattle.operations.specs.Slot.{search, open_ones, take_flag, take_on}
use Rattle.nodes.specs.declared.node.Node.{Node}
use Rattle.operations.specs.Path.{TreePlan}
use Rattle.walk.specs.declared.walk.Stop.{Stop}
use Rattle.walk.specs.declared.walk.Stop.TheVariants.{Aborts}
use Rattle.client.specs.Layout.{ClientWord}
use Rattle.client.specs.Record.{metadata}
use Rattle.client.specs.Lent.{used_in}
use Rattle.walk.specs.Walk.{Course, Going, Ended, told, walked}
use Rattle.walk.specs.declared.walk.Meta.{Meta}
use Rattle.walk.specs.Laws.Walk.{walked_fails}
use Rattle.walk.specs.Laws.Ask.{none_held}
use Rattle.walk.specs.Ask.{HoldsWrites, Noted, Asked, nothing}
use Rattle.walk.specs.Laws.Down.{stops_not}
use Rattle.walk.specs.Take.{FlagTaken}
use Rattle.walk.specs.Vector.{Looked}
use Rattle.plans.specs.Plan as P
use Rattle.walk.specs.Search.{LookedInRow, Sought, TakenOn}

-- ---- a row
module _ (slots : ℕ) (m : ClientWord → ℕ) (x u : List ℕ) (states s slot : ℕ) (b : Bool) (e : b ≡ is_open states s) where
  pub row_closed : not b ≡ true → Noted m u → LookedInRow slots m x u states s slot Going None u
  row_closed nb h =
      let q : is_open states s ≡ false = sym e ∙ not-true b nb in
      record { asks = λ w hold ss k. rw q; near = absent_inside 1024; noted = h; long = refl }

  pub row_open : (t : Course) (f : Found) (u' : List ℕ) → not b ≡ false → Looked slots m x u s slot t f u' → LookedInRow slots m x u states s slot t f u'
  row_open t f u' nb h =
      let q : is_open states s ≡ true = sym e ∙ not-false b nb in
      record { asks = λ w hold ss k. rw q (h.asks w hold (open_ones states ss) k); near = h.near; noted = h.noted; long = h.long }

pub ruleset row_exits = (row_closed, row_open)

-- a row has eight servers, its own first
pub row_is : (s : ℕ) → s < 8 → (length (row s) ≡ 8) × (take 1 (row s) ≡ s ∷ [])
row_is zero h = (refl, refl)
row_is (suc zero) h = (refl, refl)
row_is (suc (suc zero)) h = (refl, refl)
row_is (suc (suc (suc zero))) h = (refl, refl)
row_is (suc (suc (suc (suc zero)))) h = (refl, refl)
row_is (suc (suc (suc (suc (suc zero))))) h = (refl, refl)
row_is (suc (suc (suc (suc (suc (suc zero)))))) h = (refl, refl)
row_is (suc (suc (suc (suc (suc (suc (suc zero))))))) h = (refl, refl)
row_is (suc (suc (suc (suc (suc (suc (suc (suc s)))))))) h = absurd (omega arith)

-- i servers of the first n of the row are passed over
pub record Seeking (slots : ℕ) (m : ClientWord → ℕ) (x u₀ : List ℕ) (states home n slot i : ℕ) (u : List ℕ) : Type 0 where
  pub noted : Noted m u
  pub long : length u ≡ length u₀
  pub same : (w : Writes) → HoldsWrites slots x w → (k : ℕ → TreePlan)
      → walked slots m (search slots w slot (open_ones states (take n (row home))) k) (used_in u₀)
      ≡ walked slots m (search slots w slot (open_ones states (drop i (take n (row home)))) k) (used_in u)

module _ (slots : ℕ) (m : ClientWord → ℕ) (x u₀ : List ℕ) (states home n slot : ℕ) where
  abbrev ss : List ℕ
  ss = take n (row home)

  pub seek_starts : Noted m u₀ → Seeking slots m x u₀ states home n slot 0 u₀
  seek_starts h = record { noted = h; long = refl; same = λ w hold k. refl }

  module _ (i : ℕ) (u : List ℕ) (g : Seeking slots m x u₀ states home n slot i u) (there : home < 8) (few : n ≤ 8) where
    length_ss : length ss ≡ n
    length_ss = length-take-le n (row home) (omega (arith, (row_is home there).0))

    module _ (lt : i < n) (s : ℕ) (ps : s ≡ get_or (row home) i 0) (u' : List ℕ) where
      next : drop i ss ≡ s ∷ drop (suc i) ss
      next = rw (ps, ← get_or-take n (row home) i 0 lt) (drop-cons ss i 0 (omega (arith, length_ss)))

      pub seek_stops : (t : Stop) (f : Found) → LookedInRow slots m x u states s slot (Ended t) f u' → Sought slots m x u₀ (open_ones states ss) slot (Err t) u'
      seek_stops t f h = record { asks = λ w hold k. rw (g.same w hold k, next, h.asks w hold (drop (suc i) ss) k); noted = h.noted; long = h.long ∙ g.long }

      pub seek_finds : (j d : ℕ) → LookedInRow slots m x u states s slot Going (Some j) u' → d ≡ name s j → Sought slots m x u₀ (open_ones states ss) slot (Ok d) u'
      seek_finds j d h pn = record { asks = λ w hold k. rw (g.same w hold k, next, h.asks w hold (drop (suc i) ss) k, pn); noted = h.noted; long = h.long ∙ g.long }

      pub seek_goes_on : LookedInRow slots m x u states s slot Going None u' → Seeking slots m x u₀ states home n slot (i + 1) u'
      seek_goes_on h = record {
        noted = h.noted;
        long = h.long ∙ g.long;
        same = λ w hold k. rw (add-one, g.same w hold k, next, h.asks w hold (drop (suc i) ss) k);
      }

      pub seek_turn : i < 8
      seek_turn = omega arith

    pub seek_ends : n ≤ i → Sought slots m x u₀ (open_ones states ss) slot (Err (Aborts 5)) u
    seek_ends l =
        let e : drop i ss ≡ [] = drop_of_length-le ss {i = i} (omega (arith, length_ss)) in
        record { asks = λ w hold k. rw (g.same w hold k, e) (walked_fails slots m (used_in u) no_slot); noted = g.noted; long = g.long }

pub seek_near : (slots : ℕ) (m : ClientWord → ℕ) (x u : List ℕ) (states s slot : ℕ) (t : Course) (j : ℕ) (u' : List ℕ) → LookedInRow slots m x u states s slot t (Some j) u' → j < 1024
seek_near slots m x u states s slot t j u' h = h.near.inside j refl

pub ruleset seek_exits = (seek_starts, seek_stops, seek_finds, seek_goes_on, seek_near, seek_turn, seek_ends)

-- ---- the metadata, and the flag of the slot found
module _ (slots : ℕ) (m : ClientWord → ℕ) (x u ss : List ℕ) (slot : ℕ) (u₀ : List ℕ) where
  nothing_taken : (s : Stop) (x' u' : List ℕ) → ((w : Writes) → HoldsWrites slots x w → (k : ℕ → Writes → TreePlan) → walked slots m (take_on slots ss slot w k) (used_in u) ≡ told (Ended s) (used_in u'))
      → Noted m u' → length u' ≡ length u → get_or x' 0 0 ≤ get_or x 0 0 + 1 → TakenOn slots m x u ss slot (Err s) x' u'
  nothing_taken s x' u' e o g f = record {
    asks = e;
    holds = λ g. stops_not (Ended s) refl g;
    good = λ g. stops_not (Ended s) refl g;
    noted = o;
    long = g;
    few = f;
    inside = λ g. stops_not (Ended s) refl g;
  }

  pub untold : (s : Stop) (r : Node) → Asked slots m nothing u meta (Ended s) r u₀ → TakenOn slots m x u ss slot (Err s) x u₀
  untold s r a = nothing_taken s x u₀ (λ w hold k. (a.asks [] (none_held slots)).same _) a.noted a.long (omega arith)

  module _ (d : Meta) (a : Asked slots m nothing u meta Going (metadata 0 d.root d.states) u₀) where
    -- by the metadata's states the servers that are looked at
    by_states : (k : ℕ → TreePlan) (w : Writes) → walked slots m (P.ask (object meta) (λ v. search slots w slot (open_ones (states_of v) ss) k)) (used_in u)
        ≡ walked slots m (search slots w slot (open_ones d.states ss) k) (used_in u₀)
    unfolding metadata made pad
    by_states k w = (a.asks [] (none_held slots)).same (λ v. search slots w slot (open_ones (states_of v) ss) k)

    module _ (u₁ : List ℕ) where
      pub take_stops : (s : Stop) → Sought slots m x u₀ (open_ones d.states ss) slot (Err s) u₁ → TakenOn slots m x u ss slot (Err s) x u₁
      take_stops s h =
          nothing_taken s x u₁ (λ w hold k. by_states (λ d. take_flag w d (λ w'. k d w')) w ∙ h.asks w hold (λ d. take_flag w d (λ w'. k d w'))) h.noted (h.long ∙ a.long) (omega arith)

      module _ (n : ℕ) (h : Sought slots m x u₀ (open_ones d.states ss) slot (Ok n) u₁) (x' u' : List ℕ) where
        pub take_fails : (s : Stop) → FlagTaken slots m x u₁ n (Ended s) x' u' → TakenOn slots m x u ss slot (Err s) x' u'
        take_fails s f =
            nothing_taken s x' u' (λ w hold k. by_states (λ d. take_flag w d (λ w'. k d w')) w ∙ h.asks w hold (λ d. take_flag w d (λ w'. k d w')) ∙ f.asks w hold (λ w'. k n w'))
            f.noted (f.long ∙ h.long ∙ a.long) f.few

        pub take_done : FlagTaken slots m x u₁ n Going x' u' → TakenOn slots m x u ss slot (Ok n) x' u'
        take_done f = record {
          asks = λ w hold k. by_states (λ d. take_flag w d (λ w'. k d w')) w ∙ h.asks w hold (λ d. take_flag w d (λ w'. k d w')) ∙ f.asks w hold (λ w'. k n w');
          holds = f.holds;
          good = f.good;
          noted = f.noted;
          long = f.long ∙ h.long ∙ a.long;
          few = f.few;
          inside = f.inside;
        }

pub ruleset take_exits = (untold, take_stops, take_fails, take_done)
