-- Stores in one part of the memory change that part, as they would by itself, and no other.
use Rattle.std.specs.Prelude.{◌≡◌, Bool, true, false, ℕ}
use Rattle.std.proofs.Math.Path.{refl, ap, fun_ext}
use Rattle.std.proofs.Common.{sym, ◌∙◌, subst}
use Rattle.std.proofs.Math.Bool.{true≢false, false≢true}
use mathlib.Core.List.{List, [], ◌∷◌}
use Rattle.base.specs.Update.{upd}
use Rattle.layout.specs.Space.{Coding, ReadsBack, Put, put, written, changed}
use Rattle.layout.proofs.Laws.Space.{written_same, written_other, written_is, decide}
use Rattle.layout.specs.Part.{over}
use Rattle.server.specs.declared.place.Place.{Place}
use Rattle.server.specs.declared.place.Place.TheVariants.{Root}
use Rattle.server.specs.Layout.{place_again, places}
use Rattle.client.specs.Layout.{ClientWord, phase, client_again, client_words}
use Rattle.steps.specs.Whole.{Address, head, server, client, whole}
use Rattle.steps.proofs.Laws.Whole.{again}

module _ {A B : Type 0} (C : Coding A) (r : ReadsBack C) (D : Coding B) (s : ReadsBack D) (e : A → B) where
  -- a store at an address of a part
  part_written : ((a x : A) → e a ≡ e x → a ≡ x) → (m : B → ℕ) (a : A) (v : ℕ) → (λ x. written D m (e a) v (e x)) ≡ written C (λ x. m (e x)) a v
  part_written inj m a v = fun_ext (λ x. go x (decide C r x a))
    where
      go : (x : A) → Dec (x ≡ a) → written D m (e a) v (e x) ≡ written C (λ x. m (e x)) a v x
      go x (yes p) =
          subst (λ (y : A). written D m (e a) v (e y) ≡ written C (λ x. m (e x)) a v y) (sym p)
          (written_same D m (e a) v ∙ sym (written_same C (λ x. m (e x)) a v))
      go x (no n) =
          written_other D s m (e a) v (e x) (λ q. n (inj x a q)) ∙ sym (written_other C r (λ x. m (e x)) a v x n)

  part_upd : ((a x : A) → e a ≡ e x → a ≡ x) → (m : B → ℕ) (a : A) (v : ℕ)
      → (λ x. upd (decide D s) m (e a) v (e x)) ≡ upd (decide C r) (λ x. m (e x)) a v
  part_upd inj m a v =
      ap (λ (u : B → ℕ). (λ (x : A). u (e x))) (sym (written_is D s m (e a) v)) ∙ part_written inj m a v ∙ written_is C r (λ x. m (e x)) a v

  pub part_same : ((a x : A) → e a ≡ e x → a ≡ x) → (ps : List (Put A)) (m : B → ℕ)
      → (λ x. changed D m (over e ps) (e x)) ≡ changed C (λ x. m (e x)) ps
  unfolding changed over
  part_same inj [] m = refl
  part_same inj (put a v ∷ ps) m =
      part_same inj ps (written D m (e a) v) ∙ ap (λ (u : A → ℕ). changed C u ps) (part_written inj m a v)

  pub part_other : (b : B) → ((a : A) → ¬ (b ≡ e a)) → (ps : List (Put A)) (m : B → ℕ) → changed D m (over e ps) b ≡ m b
  unfolding changed over
  part_other b n [] m = refl
  part_other b n (put a v ∷ ps) m = part_other b n ps (written D m (e a) v) ∙ written_other D s m (e a) v b (n a)

-- what an address names
word_of : Address → ClientWord
word_of (head i) = phase
word_of (server s a) = phase
word_of (client c a) = a

place_of : Address → Place
place_of (head i) = Root
place_of (server s a) = a
place_of (client c a) = Root

whose : Address → ℕ
whose (head i) = i
whose (server s a) = s
whose (client c a) = c

a_client : Address → Bool
a_client (head i) = false
a_client (server s a) = false
a_client (client c a) = true

-- the parts of the memory
abbrev pub client_of : (Address → ℕ) → ℕ → ClientWord → ℕ
client_of m c a = m (client c a)

abbrev pub server_of : (Address → ℕ) → ℕ → Place → ℕ
server_of m s a = m (server s a)

module _ (m : Address → ℕ) where
  -- stores in a client's part
  module _ (c : ℕ) (ps : List (Put ClientWord)) where
    pub client_changed : client_of (changed whole m (over (client c) ps)) c ≡ changed client_words (client_of m c) ps
    unfolding word_of
    client_changed = part_same client_words client_again whole again (client c) (λ a x q. ap word_of q) ps m

    pub client_else : (d : ℕ) → ¬ (d ≡ c) → client_of (changed whole m (over (client c) ps)) d ≡ client_of m d
    unfolding whose
    client_else d n = fun_ext (λ a. part_other client_words client_again whole again (client c) (client d a) (λ x q. n (ap whose q)) ps m)

    pub client_servers : (s : ℕ) → server_of (changed whole m (over (client c) ps)) s ≡ server_of m s
    unfolding a_client
    client_servers s = fun_ext (λ a. part_other client_words client_again whole again (client c) (server s a) (λ x q. false≢true (ap a_client q)) ps m)

  -- stores in a server's part
  module _ (s : ℕ) (ps : List (Put Place)) where
    pub server_changed : server_of (changed whole m (over (server s) ps)) s ≡ changed places (server_of m s) ps
    unfolding place_of
    server_changed = part_same places place_again whole again (server s) (λ a x q. ap place_of q) ps m

    pub server_else : (t : ℕ) → ¬ (t ≡ s) → server_of (changed whole m (over (server s) ps)) t ≡ server_of m t
    unfolding whose
    server_else t n = fun_ext (λ a. part_other places place_again whole again (server s) (server t a) (λ x q. n (ap whose q)) ps m)

    pub server_clients : (c : ℕ) → client_of (changed whole m (over (server s) ps)) c ≡ client_of m c
    unfolding a_client
    server_clients c = fun_ext (λ a. part_other places place_again whole again (server s) (client c a) (λ x q. true≢false (ap a_client q)) ps m)
