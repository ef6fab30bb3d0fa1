-- The hash of the tests, computed on the examples of its draft.
use Rattle.std.proofs.Common.{◌≡◌, [], ◌∷◌, refl}
use Rattle.q_discipline_tests.specs.Fnv.{fnv1a, fnv_mixed}

fnv_of_a : fnv1a (97 ∷ []) ≡ 0xe40c292c
unfolding fnv1a fnv_mixed
fnv_of_a = refl

fnv_of_nothing : fnv1a [] ≡ 0x811c9dc5
unfolding fnv1a fnv_mixed
fnv_of_nothing = refl

-- the bytes of 'foobar'
fnv_of_foobar : fnv1a (102 ∷ 111 ∷ 111 ∷ 98 ∷ 97 ∷ 114 ∷ []) ≡ 0xbf9cf968
unfolding fnv1a fnv_mixed
fnv_of_foobar = refl
