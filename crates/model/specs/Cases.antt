-- Cases beside the worked examples, with what the original prints: each edit on odd layouts, and runs of edits. Assumes nothing.
use Rattle.std.specs.Prelude.{ℕ, List, [], ◌∷◌, codes}
use Rattle.model.specs.State.{Never, IfMultiline}
use Rattle.model.specs.Rows.{Act, top, along, remove, replace, set_value, set_root, clear, set_trailing_commas, ensure_multiline, Turn, Case, AllHold}

-- a call, and what is printed after it
abbrev pub turn : Act → List ℕ → Turn
turn x u = record { act = x; prints = u }

-- a text, and calls on it
abbrev pub case : List ℕ → List Turn → Case
case t xs = record { text = t; turns = xs }

-- the cases
abbrev pub cases : List Case
cases =
    case (codes "[1,2,]") (turn (remove (1 ∷ [])) (codes "[1,]") ∷ [])
    ∷ case (codes "[ 1 , 2 , 3 ]") (turn (remove (2 ∷ [])) (codes "[ 1 , 2  ]") ∷ [])
    ∷ case (codes "[1 // a\n, 2 // b\n]") (turn (remove (0 ∷ [])) (codes "[ 2 // b\n]") ∷ [])
    ∷ case (codes "[1, // a\n2, // b\n3 // c\n]") (turn (remove (1 ∷ [])) (codes "[1, // a\n3 // c\n]") ∷ [])
    ∷ case (codes "[/*a*/ 1 /*b*/, /*c*/ 2 /*d*/, /*e*/]") (turn (remove (0 ∷ [])) (codes "[ /*c*/ 2 /*d*/, /*e*/]") ∷ [])
    ∷ case (codes "[1, /*a*/\n 2]") (turn (remove (1 ∷ [])) (codes "[1 /*a*/\n]") ∷ [])
    ∷ case (codes "[1 /* a\n */, 2]") (turn (remove (0 ∷ [])) (codes "[ 2]") ∷ [])
    ∷ case (codes "[\n  // a\n  1,\n  // b\n  2\n  // c\n]") (turn (remove (1 ∷ [])) (codes "[\n  // a\n  1\n  // b\n  // c\n]") ∷ [])
    ∷ case (codes "[1\n\n,\n\n2\n\n]") (turn (remove (0 ∷ [])) (codes "[\n\n2\n\n]") ∷ [])
    ∷ case (codes "[1, // a\n// b\n2]") (turn (remove (1 ∷ [])) (codes "[1 // a\n// b\n]") ∷ [])
    ∷ case (codes "[1\n// a\n,// b\n2]") (turn (remove (1 ∷ [])) (codes "[1\n// a\n// b\n]") ∷ [])
    ∷ case (codes "{\"a\":1}") (turn (replace (0 ∷ 0 ∷ []) (codes "[[],[2]]")) (codes "{\"a\":[\n    [],\n    [2]\n  ]}") ∷ [])
    ∷ case (codes "{\n  // p\n  \"a\" /*q*/ : /*r*/ 1 /*s*/, // t\n  \"b\": 2, // u\n  // w\n}\n") (turn (remove (1 ∷ [])) (codes "{\n  // p\n  \"a\" /*q*/ : /*r*/ 1 /*s*/, // t\n  // w\n}\n") ∷ [])
    ∷ case (codes "{\"a\"\n:\n1\n,\"b\":2}") (turn (remove (1 ∷ [])) (codes "{\"a\"\n:\n1\n}") ∷ [])
    ∷ case (codes "{\r\n\t\"a\": {\"b\": 1},\r\n\t\"c\": []\r\n}\r\n") (turn (remove (1 ∷ [])) (codes "{\r\n\t\"a\": {\"b\": 1}\r\n}\r\n") ∷ [])
    ∷ case (codes "{\"a\":{\"a\":{\"a\":1}}}") (turn (set_value (0 ∷ []) (codes "{\"k\":[1,{\"z\":\"\"}]}")) (codes "{\"a\":{\n    \"k\": [\n      1,\n      {\n        \"z\": \"\"\n      }\n    ]\n  }}") ∷ [])
    ∷ case (codes "{\"a\":{\"a\":{\"a\":1}}}") (turn (set_trailing_commas top IfMultiline) (codes "{\"a\":{\"a\":{\"a\":1}}}") ∷ turn (set_trailing_commas top Never) (codes "{\"a\":{\"a\":{\"a\":1}}}") ∷ [])
    ∷ case (codes "/*a*/ 1 /*b*/ // c\n/*d*/") (turn (remove []) (codes "/*d*/") ∷ turn (set_root (codes "{\"a\":1}")) (codes "/*d*/\n{\n  \"a\": 1\n}\n") ∷ [])
    ∷ case (codes "\n\n") (turn (set_root (codes "null")) (codes "\nnull\n") ∷ [])
    ∷ case (codes "  \n") (turn (set_root (codes "null")) (codes "  null\n") ∷ [])
    ∷ case (codes "// c\n  ") (turn (set_root (codes "null")) (codes "// c\n  null\n") ∷ [])
    ∷ case (codes "/*c*/ ") (turn (set_root (codes "null")) (codes "/*c*/ null\n") ∷ [])
    ∷ case (codes "// a\r\n// b") (turn (set_root (codes "null")) (codes "// a\r\n// b\r\nnull\r\n") ∷ [])
    ∷ case (codes "// a\r\n/*b*/\r\n") (turn (set_root (codes "null")) (codes "// a\r\n/*b*/\r\nnull\r\n") ∷ [])
    ∷ case (codes "{ }") (turn (ensure_multiline []) (codes "{\n}") ∷ turn (ensure_multiline []) (codes "{\n}") ∷ [])
    ∷ case (codes "[/*a*/ /*b*/]") (turn (ensure_multiline []) (codes "[\n  /*a*/ /*b*/\n]") ∷ turn (ensure_multiline []) (codes "[\n  /*a*/ /*b*/\n]") ∷ [])
    ∷ case (codes "[[1, 2], 3]") (turn (ensure_multiline (0 ∷ [])) (codes "[[\n    1,\n    2\n  ], 3]") ∷ [])
    ∷ case (codes "{\n    \"a\": [1, 2]\n}") (turn (ensure_multiline (0 ∷ 0 ∷ [])) (codes "{\n    \"a\": [\n        1,\n        2\n    ]\n}") ∷ [])
    ∷ case (codes "[[1,],]") (turn (set_trailing_commas top IfMultiline) (codes "[[1,],]") ∷ [])
    ∷ case (codes "{\"a\":{\"b\":[{\"c\":1\n}\n]\n}\n}") (turn (set_trailing_commas top IfMultiline) (codes "{\"a\":{\"b\":[{\"c\":1,\n},\n],\n},\n}") ∷ [])
    ∷ case (codes "[[],{},[\n],[1],[1\n]]") (turn (set_trailing_commas top Never) (codes "[[],{},[\n],[1],[1\n]]") ∷ [])
    ∷ case (codes "{\n    \"p\": [\n        0\n    ],\n}") (turn (replace (0 ∷ 0 ∷ 0 ∷ []) (codes "\"\\u0000\\u001f\\u007f\\u0080\\u009f\\u00a0\"")) (123 ∷ 10 ∷ 32 ∷ 32 ∷ 32 ∷ 32 ∷ 34 ∷ 112 ∷ 34 ∷ 58 ∷ 32 ∷ 91 ∷ 10 ∷ 32 ∷ 32 ∷ 32 ∷ 32 ∷ 32 ∷ 32 ∷ 32 ∷ 32 ∷ 34 ∷ 92 ∷ 117 ∷ 48 ∷ 48 ∷ 48 ∷ 48 ∷ 92 ∷ 117 ∷ 48 ∷ 48 ∷ 49 ∷ 102 ∷ 92 ∷ 117 ∷ 48 ∷ 48 ∷ 55 ∷ 102 ∷ 92 ∷ 117 ∷ 48 ∷ 48 ∷ 56 ∷ 48 ∷ 92 ∷ 117 ∷ 48 ∷ 48 ∷ 57 ∷ 102 ∷ 194 ∷ 160 ∷ 34 ∷ 10 ∷ 32 ∷ 32 ∷ 32 ∷ 32 ∷ 93 ∷ 44 ∷ 10 ∷ 125 ∷ []) ∷ [])
    ∷ case (codes "{\"p\": 0}") (turn (replace (0 ∷ 0 ∷ []) (codes "[[],[1],{}]")) (codes "{\"p\": [\n    [],\n    [1],\n    {}\n  ]}") ∷ [])
    ∷ case (codes "0") (turn (replace [] (codes "{\"a\":[1,{\"b\":2}]}")) (codes "{\n  \"a\": [\n    1,\n    {\n      \"b\": 2\n    }\n  ]\n}") ∷ [])
    ∷ case (codes "{\"a\": /*x*/ 1 /*y*/}") (turn (set_value (0 ∷ []) (codes "[]")) (codes "{\"a\": /*x*/ [] /*y*/}") ∷ turn (replace (0 ∷ 0 ∷ []) (codes "{}")) (codes "{\"a\": /*x*/ {} /*y*/}") ∷ [])
    ∷ case (codes "[1 ,]") (turn (set_trailing_commas top Never) (codes "[1 ]") ∷ turn (remove (0 ∷ [])) (codes "[]") ∷ [])
    ∷ case (codes "[\n1\n ,  ]") (turn (set_trailing_commas (along []) Never) (codes "[\n1\n   ]") ∷ turn (remove (0 ∷ [])) (codes "[]") ∷ [])
    ∷ case (codes "[1, [2, 3,], {\"a\": [4,],},]") (turn (set_trailing_commas (along (2 ∷ [])) Never) (codes "[1, [2, 3,], {\"a\": [4]},]") ∷ turn (set_trailing_commas (along (1 ∷ [])) Never) (codes "[1, [2, 3], {\"a\": [4]},]") ∷ turn (set_trailing_commas top Never) (codes "[1, [2, 3], {\"a\": [4]}]") ∷ turn (ensure_multiline (2 ∷ 0 ∷ 0 ∷ [])) (codes "[1, [2, 3], {\"a\": [\n      4\n    ]}]") ∷ turn (set_trailing_commas top IfMultiline) (codes "[1, [2, 3], {\"a\": [\n      4,\n    ]}]") ∷ [])
    ∷ case (codes "[/* a\n */ 1, 2]") (turn (ensure_multiline []) (codes "[\n  /* a\n */ 1,\n  2\n]") ∷ [])
    ∷ case (codes " [\n [\n [1]]]") (turn (replace (0 ∷ 0 ∷ 0 ∷ []) (codes "{\"k\":[[2]]}")) (codes " [\n [\n [{\n \"k\": [\n [2]\n ]\n }]]]") ∷ [])
    ∷ case (codes "[[[1]\n ]\n   ]") (turn (replace (0 ∷ 0 ∷ 0 ∷ []) (codes "{\"k\":[[2]]}")) (codes "[[[{\n         \"k\": [\n            [2]\n         ]\n      }]\n ]\n   ]") ∷ [])
    ∷ case (codes "{\n    \"a\":\n  {\n  \"b\": {\n\t\"c\" :\n   1}}}") (turn (replace (0 ∷ 0 ∷ 0 ∷ 0 ∷ 0 ∷ 0 ∷ []) (codes "{\"k\":[[2]]}")) (codes "{\n    \"a\":\n  {\n  \"b\": {\n\t\"c\" :\n   {\n                \"k\": [\n                    [2]\n                ]\n            }}}}") ∷ [])
    ∷ case (codes "{\n  \"a\":[{\"b\":[{\"c\":1}]}]}") (turn (replace (0 ∷ 0 ∷ 0 ∷ 0 ∷ 0 ∷ 0 ∷ 0 ∷ 0 ∷ []) (codes "{\"k\":[[2]]}")) (codes "{\n  \"a\":[{\"b\":[{\"c\":{\n            \"k\": [\n              [2]\n            ]\n          }}]}]}") ∷ [])
    ∷ case (codes "[[]\n, 1\n ,  [//c\n{}\n]/*c*/  ]") (turn (set_trailing_commas top Never) (codes "[[]\n, 1\n ,  [//c\n{}\n]/*c*/  ]") ∷ turn (replace (2 ∷ []) (codes "[\"/*\"]")) (codes "[[]\n, 1\n ,  [\"/*\"]/*c*/  ]") ∷ turn (remove (2 ∷ [])) (codes "[[]\n, 1\n   ]") ∷ turn (ensure_multiline (0 ∷ [])) (codes "[[\n ]\n, 1\n   ]") ∷ [])
    ∷ case (codes "[{}\n ,  ]") (turn (set_trailing_commas top Never) (codes "[{}\n   ]") ∷ turn (replace (0 ∷ []) (codes "{}")) (codes "[{}\n   ]") ∷ turn (replace (0 ∷ []) (codes "[[[null],[{}]]]")) (codes "[[\n [\n  [null],\n  [{}]\n ]\n]\n   ]") ∷ [])
    ∷ case (codes "{\n\t \"a\":[]\n\t ,\"a\":[//c\n2\t,/*c*/1\n ]\n \t}") (turn (replace (1 ∷ 0 ∷ 1 ∷ []) (codes "true")) (codes "{\n\t \"a\":[]\n\t ,\"a\":[//c\n2\t,/*c*/true\n ]\n \t}") ∷ turn (remove (1 ∷ 0 ∷ 1 ∷ [])) (codes "{\n\t \"a\":[]\n\t ,\"a\":[//c\n2\t ]\n \t}") ∷ turn (remove (1 ∷ 0 ∷ 0 ∷ [])) (codes "{\n\t \"a\":[]\n\t ,\"a\":[//c\n ]\n \t}") ∷ turn (replace (0 ∷ 0 ∷ []) (codes "true")) (codes "{\n\t \"a\":true\n\t ,\"a\":[//c\n ]\n \t}") ∷ [])
    ∷ case (codes "[[[]],{\r\n\"b\":1,\"a\":{\"b\":{\"a\":{}},\"a\":[[],2,], },\"b\":2 },]") (turn (replace (1 ∷ 1 ∷ 0 ∷ 0 ∷ 0 ∷ 0 ∷ 0 ∷ []) (codes "{\"k\":1}")) (codes "[[[]],{\r\n\"b\":1,\"a\":{\"b\":{\"a\":{\r\n          \"k\": 1\r\n        }},\"a\":[[],2,], },\"b\":2 },]") ∷ turn (set_value (1 ∷ 1 ∷ 0 ∷ 0 ∷ 0 ∷ 0 ∷ 0 ∷ 0 ∷ []) (codes "[[1]]")) (codes "[[[]],{\r\n\"b\":1,\"a\":{\"b\":{\"a\":{\r\n          \"k\": [\r\n            [1]\r\n          ]\r\n        }},\"a\":[[],2,], },\"b\":2 },]") ∷ turn (set_value (1 ∷ 1 ∷ 0 ∷ 0 ∷ 0 ∷ 0 ∷ []) (codes "[{\"k\":{\"l\":1}}]")) (codes "[[[]],{\r\n\"b\":1,\"a\":{\"b\":{\"a\":[\r\n          {\r\n            \"k\": {\r\n              \"l\": 1\r\n            }\r\n          }\r\n        ]},\"a\":[[],2,], },\"b\":2 },]") ∷ [])
    ∷ case (codes "//0\n /*1*/ /*2*/\n") (turn (clear) [] ∷ [])
    ∷ case (codes "// a\n[1]\n// b\n") (turn (clear) [] ∷ turn (set_root (codes "[1]")) (codes "[1]\n") ∷ turn (ensure_multiline []) (codes "[\n  1\n]\n") ∷ turn (remove (0 ∷ [])) (codes "[]\n") ∷ turn (remove []) [] ∷ turn (set_root (codes "2")) (codes "2\n") ∷ [])
    ∷ []

-- what one might not expect, and the original prints all the same: layouts that depart from its own comments, whitespace that only the tree remembers, a line break
-- inside a block comment, commas and comments around a removed element
abbrev pub surprises : List Case
surprises =
    case (codes "1\r\n") (turn (replace [] (codes "[[1]]")) (codes "[\n  [1]\n]\r\n") ∷ [])
    ∷ case (codes "[\n    1\n]") (turn (replace [] (codes "[[1]]")) (codes "[\n  [1]\n]") ∷ [])
    ∷ case (codes "[\n    1\n]") (turn (set_root (codes "[[1]]")) (codes "[\n  [1]\n]") ∷ [])
    ∷ case (codes "{\n  \"a\": [1],\n}") (turn (replace (0 ∷ 0 ∷ 0 ∷ []) (codes "{\"b\":1}")) (codes "{\n  \"a\": [{\n    \"b\": 1\n  }],\n}") ∷ [])
    ∷ case (codes "{\n  \"a\": 1,\n}") (turn (set_value (0 ∷ []) (codes "{\"b\":1}")) (codes "{\n  \"a\": {\n    \"b\": 1\n  },\n}") ∷ [])
    ∷ case (codes "[\n  1\n]") (turn (replace (0 ∷ []) (codes "{\"b\":1}")) (codes "[\n  {\n  \"b\": 1\n}\n]") ∷ [])
    ∷ case (codes "{\n  \"a\": [\n    1\n  ]\n}") (turn (replace (0 ∷ 0 ∷ 0 ∷ []) (codes "{\"b\":1}")) (codes "{\n  \"a\": [\n    {\n    \"b\": 1\n  }\n  ]\n}") ∷ [])
    ∷ case (codes "{\n  \"a\": 1\n}") (turn (replace (0 ∷ 0 ∷ []) (codes "{\"b\":1}")) (codes "{\n  \"a\": {\n    \"b\": 1\n  }\n}") ∷ [])
    ∷ case (codes "{\"a\":1}") (turn (set_value (0 ∷ []) (codes "{\"b\":1}")) (codes "{\"a\":{\n    \"b\": 1\n  }}") ∷ [])
    ∷ case (codes "[[1]]") (turn (replace (0 ∷ 0 ∷ []) (codes "{\"b\":1}")) (codes "[[{\n    \"b\": 1\n  }]]") ∷ [])
    ∷ case (codes " [\n [1]]") (turn (replace (0 ∷ 0 ∷ []) (codes "{\"k\":1}")) (codes " [\n [{\n \"k\": 1\n }]]") ∷ [])
    ∷ case (codes "[\n   \n  1]") (turn (replace (0 ∷ []) (codes "{\"b\":1}")) (codes "[\n   \n  {\n   \"b\": 1\n}]") ∷ [])
    ∷ case (codes "[1, 2]") (turn (remove (0 ∷ [])) (codes "[ 2]") ∷ [])
    ∷ case (codes "[//c\n1 , ]") (turn (set_trailing_commas top Never) (codes "[//c\n1  ]") ∷ turn (remove (0 ∷ [])) (codes "[//c\n ]") ∷ [])
    ∷ case (codes "[1,2 ,3 ]") (turn (remove (2 ∷ [])) (codes "[1,2  ]") ∷ turn (remove (1 ∷ [])) (codes "[1 ]") ∷ [])
    ∷ case (codes "[1\n , 2  ]") (turn (remove (1 ∷ [])) (codes "[1\n   ]") ∷ turn (replace (0 ∷ []) (codes "[[1]]")) (codes "[[\n [1]\n]\n   ]") ∷ [])
    ∷ case (codes "[[]\n , ]") (turn (set_trailing_commas top Never) (codes "[[]\n  ]") ∷ turn (ensure_multiline (0 ∷ [])) (codes "[[\n ]\n  ]") ∷ [])
    ∷ case (codes "[\r1\n,\n2]") (turn (remove (0 ∷ [])) (codes "[\r\n2]") ∷ [])
    ∷ case (codes "[1, /* a\n */ 2]") (turn (remove (0 ∷ [])) (codes "[ /* a\n */ 2]") ∷ [])
    ∷ case (codes "[1 // a\n, 2]") (turn (remove (1 ∷ [])) (codes "[1 // a\n]") ∷ [])
    ∷ case (codes "[1, 2,]") (turn (remove (1 ∷ [])) (codes "[1,]") ∷ [])
    ∷ case (codes "[1 // a\n, // b\n 2]") (turn (remove (0 ∷ [])) (codes "[ // b\n 2]") ∷ [])
    ∷ case (codes "// c\n  ") (turn (set_root (codes "null")) (codes "// c\n  null\n") ∷ [])
    ∷ case (codes "[{\n}]") (turn (set_trailing_commas top IfMultiline) (codes "[{\n}]") ∷ [])
    ∷ case (codes "[1,]") (turn (set_trailing_commas top IfMultiline) (codes "[1,]") ∷ [])
    ∷ case (codes "1\r\n") (turn (set_root (codes "[[1]]")) (codes "[\r\n  [1]\r\n]\r\n") ∷ [])
    ∷ []

-- each of them prints what the original prints
abbrev pub Replayed : Type 0
Replayed = AllHold cases × AllHold surprises
