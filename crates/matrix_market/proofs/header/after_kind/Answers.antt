use Rattle.std.proofs.Common.{codes, ◌≡◌, Bool, false, List, [], ◌∷◌, ◌∙◌, Some, None, Option, Bor, MatchOption}
use Rattle.matrix_market.specs.Layout.{Bytes, named, fields}
use Rattle.matrix_market.proofs.header.after_kind.Goals as goal

-- the last word
last : (o : Option (Bor Bytes)) (fs : List Bytes) (w : Bytes) (b : Bool) → b ≡ named fs (w ∷ []) → MatchOption o ((ws : List Bytes) → named fs (w ∷ ws) ≡ false) (λ t. (ws : List Bytes) → named fs (w ∷ ws) ≡ named (fields t.now) ws) → MatchOption o (b ≡ false) (λ t. b ≡ named (fields t.now) [])
last None fs w b e h = e ∙ h []
last (Some t) fs w b e h = e ∙ h []

pub returns : goal.returns
returns c = last c.after_word-4.result (fields c.in_ok-rest-3.rest.now) (codes "general") _ (c.in_ok-rest.ensures _ ∙ c.in_ok-rest-2.ensures _ ∙ c.in_ok-rest-3.ensures _) c.after_word-4.ensures
