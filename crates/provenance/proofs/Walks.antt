-- What one step back through a history finds.
use Rattle.std.proofs.Common.{◌≡◌, ℕ, ◌+◌, ◌≤◌, true, false, ◌||◌, List, [], ◌∷◌, ◌++◌, length, arith, refl, ap, sym, ◌∙◌, append_assoc}
use Rattle.std.specs.Prelude.{Some, if◌then◌else◌}
use Rattle.std.proofs.lemmas.List.{append-nil}
use Rattle.std.proofs.lemmas.Grind.{common_steps}
use Rattle.split_types.specs.declared.ids.Txn.{Txn}
use Rattle.split_types.specs.declared.buf.Buf.{Buf}
use Rattle.split_types.specs.declared.event.Event.{Event}
use Rattle.split_types.specs.declared.event.Event.TheVariants.{Serve, Seal}
use Rattle.split_types.specs.History.{◌▹◌, event_at, older}
use Rattle.split_types.specs.Hooks.{is_dirtied, is_freed, is_out}
use Rattle.split_types.specs.OpenDirtyings.{open_at}
use Rattle.split_types.specs.Parents.{last_serve}
use Rattle.split_types.specs.Rounds.{seal_place}
use Rattle.split_types.specs.ByPlace.{is_serve, is_seal_of}
use Rattle.split_types.proofs.Shared.{older-next, length-older_at, event_at-within}

pub older-none : (h : List Event) → older h 0 ≡ []
older-none [] = refl
older-none (h ▹ e) = grind (arith, common_steps, older-none h)

-- the length of the part of a history before an event
before : (h : List Event) (e : Event) (n : ℕ) → event_at h n ≡ Some e → length (older h n) ≡ n
before h e n at = length-older_at h n (omega (arith, event_at-within h e n at))

-- what a step back adds to the open dirtyings, and what is left to find
abbrev pub found_open : Event → Buf → ℕ → List ℕ → List ℕ
found_open e b n rest = (if is_dirtied e b then n ∷ [] else []) ++ (if is_freed e b || is_out e b then [] else rest)

pub open-step : (h : List Event) (e : Event) (n : ℕ) (b : Buf) → event_at h n ≡ Some e
    → open_at (older h (n + 1)) b ≡ found_open e b n (open_at (older h n) b)
open-step h e n b at = ap (λ l. open_at l b) (older-next h e n at)
    ∙ ap (λ k. found_open e b k (open_at (older h n) b)) (before h e n at)

serve_more : (h : List Event) (e : Event) → last_serve (h ▹ e) ≡ (if is_serve e then length h ∷ [] else last_serve h)
serve_more h (Serve s g n) = refl
serve_more h e = refl

pub serve-step : (h : List Event) (e : Event) (n : ℕ) → event_at h n ≡ Some e
    → last_serve (older h (n + 1)) ≡ (if is_serve e then n ∷ [] else last_serve (older h n))
serve-step h e n at =
    ap last_serve (older-next h e n at) ∙ serve_more (older h n) e
    ∙ ap (λ k. if is_serve e then k ∷ [] else last_serve (older h n)) (before h e n at)

seal_more : (h : List Event) (e : Event) (t : Txn) → seal_place (h ▹ e) t
    ≡ (if is_seal_of t e then length h ∷ [] else seal_place h t)
seal_more h (Seal u k) t = refl
seal_more h e t = refl

pub seal-step : (h : List Event) (e : Event) (n : ℕ) (t : Txn) → event_at h n ≡ Some e
    → seal_place (older h (n + 1)) t ≡ (if is_seal_of t e then n ∷ [] else seal_place (older h n) t)
seal-step h e n t at =
    ap (λ l. seal_place l t) (older-next h e n at) ∙ seal_more (older h n) e t
    ∙ ap (λ k. if is_seal_of t e then k ∷ [] else seal_place (older h n) t) (before h e n at)

-- an event after which no older dirtying is open ends the walk
pub open-closed : (h : List Event) (e : Event) (n rest : ℕ) (b : Buf) (old new : List ℕ)
    → rest ≡ n + 1 → event_at h n ≡ Some e → new ≡ old ++ (if is_dirtied e b then n ∷ [] else [])
    → (is_freed e b || is_out e b) ≡ true → new ++ open_at (older h 0) b ≡ old ++ open_at (older h rest) b
open-closed h e n rest b old new is at news closed =
    let step : open_at (older h rest) b ≡ found_open e b n (open_at (older h n) b) = ap (λ k. open_at (older h k) b) is
    ∙ open-step h e n b at in
    rw (older-none h, step, closed, news) (append-nil _ ∙ ap (λ l. old ++ l) (sym (append-nil _)))

pub open-going : (h : List Event) (e : Event) (n rest : ℕ) (b : Buf) (old new : List ℕ)
    → rest ≡ n + 1 → event_at h n ≡ Some e → new ≡ old ++ (if is_dirtied e b then n ∷ [] else [])
    → (is_freed e b || is_out e b) ≡ false → new ++ open_at (older h n) b ≡ old ++ open_at (older h rest) b
open-going h e n rest b old new is at news closed =
    let step : open_at (older h rest) b ≡ found_open e b n (open_at (older h n) b) = ap (λ k. open_at (older h k) b) is
    ∙ open-step h e n b at in
    rw (step, closed, news) (append_assoc old (if is_dirtied e b then n ∷ [] else []) (open_at (older h n) b))

pub open-end : (h : List Event) (rest : ℕ) (b : Buf) (places whole : List ℕ) → rest ≤ 0
    → places ++ open_at (older h rest) b ≡ whole → places ≡ whole
open-end h rest b places whole le is =
    let none : rest ≡ 0 = omega arith in
    let nothing : older h rest ≡ [] = ap (older h) none ∙ older-none h in
    sym (append-nil places) ∙ ap (λ l. places ++ open_at l b) (sym nothing) ∙ is

pub serve-found : (h : List Event) (e : Event) (n rest : ℕ) → rest ≡ n + 1 → event_at h n ≡ Some e → is_serve e ≡ true
    → n ∷ [] ≡ last_serve (older h rest)
serve-found h e n rest is at serve = rw (is, serve-step h e n at, serve) refl

pub serve-passed : (h : List Event) (e : Event) (n rest : ℕ) → rest ≡ n + 1 → event_at h n ≡ Some e → is_serve e ≡ false
    → last_serve (older h n) ≡ last_serve (older h rest)
serve-passed h e n rest is at other = rw (is, serve-step h e n at, other) refl

pub serve-end : (h : List Event) (rest : ℕ) → rest ≤ 0 → [] ≡ last_serve (older h rest)
serve-end h rest le = let none : rest ≡ 0 = omega arith in rw (none, older-none h) refl

pub seal-found : (h : List Event) (e : Event) (n rest : ℕ) (t : Txn) → rest ≡ n + 1 → event_at h n ≡ Some e
    → is_seal_of t e ≡ true → n ∷ [] ≡ seal_place (older h rest) t
seal-found h e n rest t is at seal = rw (is, seal-step h e n t at, seal) refl

pub seal-passed : (h : List Event) (e : Event) (n rest : ℕ) (t : Txn) → rest ≡ n + 1 → event_at h n ≡ Some e
    → is_seal_of t e ≡ false → seal_place (older h n) t ≡ seal_place (older h rest) t
seal-passed h e n rest t is at other = rw (is, seal-step h e n t at, other) refl

pub seal-end : (h : List Event) (rest : ℕ) (t : Txn) → rest ≤ 0 → [] ≡ seal_place (older h rest) t
seal-end h rest t le = let none : rest ≡ 0 = omega arith in rw (none, older-none h) refl
