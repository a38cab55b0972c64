-- The words of all kinds one after another, as the code keeps them.
use Rattle.std.specs.Prelude.{◌∷◌}
use Rattle.lists.specs.Basics.{ℕ, List, [], bytes}

unfoldable pub all_words : List (List ℕ)
all_words =
    bytes "    ABSENT"
    ∷ bytes " COMMITTED"
    ∷ bytes "  PREPARED"
    ∷ bytes "         -"
    ∷ bytes "    ABSENT"
    ∷ bytes " COMMITTED"
    ∷ bytes "         -"
    ∷ bytes " COMMITTED"
    ∷ bytes "   ABORTED"
    ∷ bytes "         R"
    ∷ bytes "         P"
    ∷ bytes "         T"
    ∷ bytes "         N"
    ∷ bytes "         S"
    ∷ bytes "         r"
    ∷ bytes "         p"
    ∷ bytes "         t"
    ∷ bytes "         n"
    ∷ bytes "         s"
    ∷ []
