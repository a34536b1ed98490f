-- Transcripts of small scripts, by evaluation alone.
use Rattle.std.proofs.Common.{◌≡◌, [], ◌∷◌, refl, codes}
use Rattle.std.specs.Fmt.{digits}
use Rattle.homology.specs.Complexes.{incidence}
use Rattle.homology.specs.Kinds.{is_positive, is_bounding}
use Rattle.homology.specs.Growth.{judge, new_faces}
use Rattle.cohomology.specs.Classes.{canonical, class_of, canonical_bound}
use Rattle.cohomology.specs.Cycles.{class_cycle}
use Rattle.cohomology.specs.Maps.{f_of, phi_of}
use Rattle.products.specs.Products.{cup, value_at}
use Rattle.products.specs.Caps.{cap}
use Rattle.manifolds.specs.Closed.{closed}
use Rattle.manifolds.specs.Links.{link, links}
use Rattle.characteristic_classes.specs.Pairings.{first_degenerate, duality}
use Rattle.characteristic_classes.specs.WuClasses.{wu_class, wu, stiefel_whitney, stiefel_whitney_number}
use Rattle.lines.specs.Lines.{grown}
use Rattle.language.specs.Streams.{stream}
use Rattle.language.specs.Words.{words_from}
use Rattle.language.specs.Arguments.{number_word, simplex_word, name_word, literal_word, numbered_word, zero_word, body_word, graded_word, vertex_word, caller_word}
use Rattle.language.specs.Brackets.{bracket_word}
use Rattle.language.specs.Grammar.{nothing, one, both, many, alone, form, chosen, requests, request, reading}
use Rattle.transcript.specs.Answers.{betti_numbers, simplex_counts, literal}
use Rattle.transcript.specs.Replies.{text}
use Rattle.transcript.specs.Transcripts.{Input, Quit, transcript}

transcript-hollow_triangle :
    transcript (codes "attach 0\nattach 1\nattach 0-1\nattach 2\nattach 0-2\nattach 1-2\ncut\nbetti\n")
    ≡ record { bytes = codes "ok attach 0 1\nok attach 1 2\nok attach 2 3\nok attach 3 4\nok attach 4 5\nok attach 5 6\nok cut 1 7\nok v1 betti 1 1\n"; looks = 0 ∷ 1 ∷ 2 ∷ 3 ∷ 4 ∷ 5 ∷ 6 ∷ []; lines = 8; ending = Input }
unfolding digits transcript grown stream words_from number_word simplex_word vertex_word caller_word nothing one both many alone form chosen requests request reading betti_numbers text judge new_faces incidence is_positive is_bounding
transcript-hollow_triangle = refl

transcript-facet :
    transcript (codes "facet 2 0 1\n2 0 1\n# again\n\ncut\nbetti\nround 2\nattach 0-3\nquit\ncut")
    ≡ record { bytes = codes "ok facet 7 7\nok facet 0 7\nok cut 1 8\nok v1 betti 1 0 0\nno later\nno face 3\nok quit\n"; looks = 0 ∷ 7 ∷ 7 ∷ 8 ∷ []; lines = 9; ending = Quit }
unfolding digits transcript grown stream words_from number_word simplex_word vertex_word caller_word nothing one both many alone form chosen requests request reading betti_numbers text judge new_faces incidence is_positive is_bounding
transcript-facet = refl

-- facets in brackets, the second of which shares an edge with the first, and facets that are there; a list with a fault adds nothing
transcript-facets :
    transcript (codes "[[1, 2, 3], [1, 2, 4]]\n[[1,2],[4]]\n[[1,5],[6,6]]\n[[5],[1,5],[5]]\ncut\nbetti\n")
    ≡ record { bytes = codes "ok facet 11 11\nok facet 0 11\nbad 1 repeat\nok facet 2 13\nok cut 1 14\nok v1 betti 1 0 0\n"; looks = 0 ∷ 11 ∷ 11 ∷ 13 ∷ []; lines = 6; ending = Input }
unfolding digits transcript grown stream words_from bracket_word nothing one both many alone form chosen requests request reading betti_numbers text new_faces incidence is_positive is_bounding
transcript-facets = refl

-- the number of simplices of each dimension, and kinds: the edge that closed the triangle is essential until it is filled
transcript-kinds :
    transcript (codes "0 1\n0 2\n1 2\ncut\ncount\nkind 2-1\nkind 0-1\nkind 0-3\n0 1 2\ncut\ncount\nkind 1-2\n")
    ≡ record { bytes = codes "ok facet 3 3\nok facet 2 5\nok facet 1 6\nok cut 1 7\nok v1 count 3 3\nok v1 kind 1-2 essential\nok v1 kind 0-1 other\nno v1 notthere 0-3\nok facet 1 8\nok cut 2 9\nok v2 count 3 3 1\nok v2 kind 1-2 other\n"; looks = 0 ∷ 3 ∷ 5 ∷ 6 ∷ 7 ∷ 8 ∷ []; lines = 12; ending = Input }
unfolding digits transcript grown stream words_from number_word simplex_word vertex_word caller_word nothing one both many alone form chosen requests request reading betti_numbers simplex_counts text judge new_faces incidence is_positive is_bounding
transcript-kinds = refl

-- classes of an edge that closed the triangle, and what is no coboundary
transcript-classes :
    transcript (codes "0 1\n0 2\n1 2\ncut\nclasses 1\nmodel 1-2\nchain 1:*0\nclass 1:{0-1}\nbound 1:{0-1,0-2}\nbound 1:#0\n")
    ≡ record { bytes = codes "ok facet 3 3\nok facet 2 5\nok facet 1 6\nok cut 1 7\nok v1 classes 1 1 1-2\nok v1 model 1-2 1:[1-2] 2:[]\nok v1 chain 1:[0-1,0-2,1-2]\nok v1 class 1:#0\nok v1 bound 0:{1,2}\nno v1 differs 1-2\n"; looks = 0 ∷ 3 ∷ 5 ∷ 6 ∷ []; lines = 10; ending = Input }
unfolding digits transcript grown stream words_from number_word simplex_word literal_word numbered_word zero_word body_word graded_word vertex_word caller_word nothing one both many alone form chosen requests request reading literal text judge new_faces incidence is_positive is_bounding canonical class_of canonical_bound class_cycle f_of phi_of
transcript-classes = refl

-- operations on an edge, and each other refusal
transcript-operations :
    transcript (codes "0 1\ncut\ndelta 0:{0}\nboundary 1:[0-1]\ncupi 0 0:{0} 1:{0-1}\ncap 0:{0} 1:[0-1]\ncap 1:0 0:[0]\nclass 1:#1\nclass 0:{0}\ncochain 1:{0}\nchain 0:[2,0]\n")
    ≡ record { bytes = codes "ok facet 3 3\nok cut 1 4\nok v1 delta 1:{0-1}\nok v1 boundary 0:[0,1]\nok v1 cupi 1:{0-1}\nok v1 cap 1:[0-1]\nno v1 degrees 1 0\nno v1 noclass 1\nno v1 notcocycle 0-1\nno v1 degree 0\nno v1 notthere 2\n"; looks = 0 ∷ 3 ∷ []; lines = 11; ending = Input }
unfolding digits transcript grown stream words_from number_word simplex_word literal_word numbered_word zero_word body_word graded_word vertex_word caller_word nothing one both many alone form chosen requests request reading literal text judge new_faces incidence is_positive is_bounding canonical class_of cup value_at cap
transcript-operations = refl

-- results on two cocycles of one class, and what is not of one class
transcript-same :
    transcript (codes "0 1\n0 2\n1 2\ncut\nsame square 0 1:#0 1:{0-1}\nsame bockstein 1:#0 0:#0\nsame cup 1:#0 1:0 1:0 0:0\n")
    ≡ record { bytes = codes "ok facet 3 3\nok facet 2 5\nok facet 1 6\nok cut 1 7\nok v1 same square 0:{1}\nno v1 degrees 1 0\nno v1 differs 1-2\n"; looks = 0 ∷ 3 ∷ 5 ∷ 6 ∷ []; lines = 7; ending = Input }
unfolding digits transcript grown stream words_from number_word simplex_word literal_word numbered_word zero_word body_word graded_word vertex_word caller_word nothing one both many alone form chosen requests request reading literal text judge new_faces incidence is_positive is_bounding canonical class_of canonical_bound cup value_at
transcript-same = refl

-- no simplex, a circle, a filled triangle, and that with an edge at a vertex
transcript-closed :
    transcript (codes "closed\n0 1\n0 2\n1 2\ncut\nclosed\n0 1 2\ncut\nclosed\n2 3\ncut\nclosed\n")
    ≡ record { bytes = codes "no v0 nothing\nok facet 3 3\nok facet 2 5\nok facet 1 6\nok cut 1 7\nok v1 closed 1\nok facet 1 8\nok cut 2 9\nno v2 ridge 0-1 1\nok facet 2 11\nok cut 3 12\nno v3 notpure 3\n"; looks = 0 ∷ 3 ∷ 5 ∷ 6 ∷ 7 ∷ 8 ∷ 9 ∷ 11 ∷ []; lines = 12; ending = Input }
unfolding digits transcript grown stream words_from number_word simplex_word vertex_word caller_word nothing one both many alone form chosen requests request reading text judge new_faces closed
transcript-closed = refl

-- no simplex, and two points, whose links are empty
transcript-points :
    transcript (codes "links\nduality\n0\n1\ncut\nlinks\nduality\nwu\nsw\nswnumber 1\n")
    ≡ record { bytes = codes "ok v0 links\nno v0 nothing\nok facet 1 1\nok facet 1 2\nok cut 1 3\nok v1 links\nok v1 duality 0:10/01\nok v1 wu 0:#0+#1\nok v1 sw 0:#0+#1\nno v1 sum 1 0\n"; looks = 0 ∷ 1 ∷ 2 ∷ []; lines = 10; ending = Input }
unfolding digits transcript grown stream words_from number_word simplex_word vertex_word caller_word nothing one both many alone form chosen requests request reading text judge new_faces closed incidence is_positive is_bounding canonical class_of cup value_at link links first_degenerate duality wu_class wu stiefel_whitney stiefel_whitney_number
transcript-points = refl

-- a circle, with degrees of its dimension and others; and the triangle that fills it, in which the link of a vertex is an edge
transcript-circle :
    transcript (codes "0 1\n0 2\n1 2\ncut\nlinks\nduality\nwu\nsw\nswnumber 1\nswnumber 2 2\n0 1 2\ncut\nlinks\nwu\n")
    ≡ record { bytes = codes "ok facet 3 3\nok facet 2 5\nok facet 1 6\nok cut 1 7\nok v1 links\nok v1 duality 0:1 1:1\nok v1 wu 0:#0 1:0\nok v1 sw 0:#0 1:0\nok v1 swnumber 0\nno v1 sum 4 1\nok facet 1 8\nok cut 2 9\nno v2 link 0 1 0\nno v2 ridge 0-1 1\n"; looks = 0 ∷ 3 ∷ 5 ∷ 6 ∷ 7 ∷ 8 ∷ []; lines = 14; ending = Input }
unfolding digits transcript grown stream words_from number_word simplex_word vertex_word caller_word nothing one both many alone form chosen requests request reading text judge new_faces closed incidence is_positive is_bounding canonical class_of cup value_at link links first_degenerate duality wu_class wu stiefel_whitney stiefel_whitney_number
transcript-circle = refl

-- two callers on one line: each computes on the version that it has in use
transcript-callers :
    transcript (codes "attach 0\nattach 1\ncut\nhold two\n@1 attach 0-1\n@1 cut\nbetti\nsee\nbetti\nuse two\nbetti\n@1 attach 2\n@1 betti\nafter 6\nafter 7\n@0\n@1\tquit\n@2 cut\n")
    ≡ record { bytes = codes "ok attach 0 1\nok attach 1 2\nok cut 1 3\nok hold two 1\nok attach 2 4\nok cut 2 5\nok v1 betti 2\nok see 2 5\nok v2 betti 1 0\nok use two 1\nok v1 betti 2\nok attach 3 6\nok v2 betti 1 0\nok after 2 6\nno notyet 6\nok quit\n"; looks = 0 ∷ 1 ∷ 2 ∷ 3 ∷ 4 ∷ 5 ∷ 5 ∷ 6 ∷ 6 ∷ []; lines = 17; ending = Quit }
unfolding digits transcript grown stream words_from number_word simplex_word name_word vertex_word caller_word nothing one both many alone form chosen requests request reading betti_numbers text judge new_faces incidence is_positive is_bounding
transcript-callers = refl

-- before the first cut
transcript-empty_version :
    transcript (codes "betti\ncount\nclasses 0\nsee\nafter 1\ncut\n@15 betti\n@15 see\nbetti\n")
    ≡ record { bytes = codes "ok v0 betti\nok v0 count\nok v0 classes 0 0\nok see 0 0\nno notyet 0\nok cut 1 1\nok v0 betti\nok see 1 1\nok v1 betti\n"; looks = 0 ∷ 0 ∷ 0 ∷ 1 ∷ []; lines = 9; ending = Input }
unfolding digits transcript grown stream words_from number_word simplex_word name_word vertex_word caller_word nothing one both many alone form chosen requests request reading betti_numbers simplex_counts text judge new_faces incidence is_positive is_bounding
transcript-empty_version = refl

-- names are each caller's own
transcript-names :
    transcript (codes "hold a\nhold a\nuse b\ncut\nhold b\n@1 use a\nuse a\nhold c\ndrop a\ndrop a\nuse c\nuse b\n")
    ≡ record { bytes = codes "ok hold a 0\nno held a\nno noname b\nok cut 1 1\nok hold b 1\nno noname a\nok use a 0\nok hold c 0\nok drop a\nno noname a\nok use c 0\nok use b 1\n"; looks = 0 ∷ []; lines = 12; ending = Input }
unfolding digits transcript grown stream words_from number_word simplex_word name_word vertex_word caller_word nothing one both many alone form chosen requests request reading text
transcript-names = refl

-- back to a version, by one caller and by another, and to one that is not there
transcript-returns :
    transcript (codes "0 1 2\ncut\n0 3\ncut\nback 1\nattach 3\ncut\nbetti\nback 4\n@1 back 0\nattach 0\nbetti\n@1 see\n@1 betti\n")
    ≡ record { bytes = codes "ok facet 7 7\nok cut 1 8\nok facet 2 10\nok cut 2 11\nok back 1 12\nok attach 7 13\nok cut 3 14\nok v3 betti 2 0 0\nno noversion 3\nok back 0 15\nok attach 0 16\nok v3 betti 2 0 0\nok see 3 16\nok v3 betti 2 0 0\n"; looks = 0 ∷ 7 ∷ 8 ∷ 10 ∷ 11 ∷ 12 ∷ 13 ∷ 14 ∷ 14 ∷ 15 ∷ 16 ∷ []; lines = 14; ending = Input }
unfolding digits transcript grown stream words_from number_word simplex_word name_word vertex_word caller_word nothing one both many alone form chosen requests request reading betti_numbers text judge new_faces incidence is_positive is_bounding
transcript-returns = refl
