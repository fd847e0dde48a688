-- The firmware's text is that of its trees. The functions stand here as they are written, and the numbers
-- are offsets in the text: of each list, then of its first word, and of each name and number before it.
use Rattle.std.proofs.Common.{◌≡◌, ◌≤◌, List, [], ◌∷◌, Ok, map, codes, refl, sym, ap, subst, ◌∙◌, arith}
use Rattle.br_words.specs.declared.operation.BinOp.TheVariants as o
use Rattle.br_sexpr.specs.Reads.{Reads}
use Rattle.br_sexpr.specs.Token.{tokens_of, kept}
use Rattle.br_sexpr.specs.Progress.{pieces, outside}
use Rattle.br_sexpr.proofs.Layouts.{layout}
use Rattle.br_sexpr.proofs.OneAnswer.{reads-one}
use Rattle.br_syntax.specs.declared.program.Func.{Func}
use Rattle.br_syntax.specs.Denotes.{functions}
use Rattle.br_syntax.specs.Offsets.{without_offsets, IsEqualUpToOffsets}
use Rattle.br_lightbulb.specs.Firmware.{IsFirmware, IsFirmwareUpToOffsets}
use Rattle.br_lightbulb.specs.Names as name
use Rattle.br_lightbulb.specs.Polls.{firmware}
use Rattle.br_lightbulb.specs.Text.{firmware_text}
use Rattle.br_lightbulb.proofs.Forest as forest
use Rattle.br_lightbulb.proofs.Placed.{number, var, op, load1, none, one, two, no_args, one_arg, two_args, done}
use Rattle.br_lightbulb.proofs.Placed.{set, store4, stackalloc, cond, loop, call, interact, Function, function_tree}
use Rattle.br_lightbulb.proofs.Placed.{placed, bare_function, functions_read, functions_bare, functions_forest}
use Rattle.br_syntax.proofs.Meanings.{unplaced_again}

abbrev spi_put : Function
spi_put = record {
  at = 0;
  word_at = 1;
  name_at = 4;
  name = name.spi_put;
  args = one 12 13 name.b;
  results = one 16 17 name.bad;
  body = set 24 25 29 name.bad (number 33 1)
      (set 36 37 41 name.n (number 43 1000)
      (loop 51 52 (var 58 name.n) (interact 64 65 (one 74 75 name.w) 78 (codes "MMIOREAD")
      (one_arg (number 87 0x10024048))
      (set 103 104 108 name.n (op 110 111 o.Sub (var 115 name.n) (number 117 1))
      (cond 125 126 (op 129 130 o.Lts (var 134 name.w) (number 136 0)) 139 140 done 146 147
      (set 152 153 157 name.bad (number 161 0)
      (set 164 165 169 name.n (number 171 0)
      done))
      done)))
      (cond 179 180 (var 183 name.bad) 187 188 done 194 195
      (interact 200 201 (none 210) 213 (codes "MMIOWRITE") (two_args (number 223 0x10024048) (var 234 name.b))
      done)
      done)));
}

abbrev spi_get : Function
spi_get = record {
  at = 240;
  word_at = 241;
  name_at = 244;
  name = name.spi_get;
  args = none 252;
  results = two 255 256 name.b 258 name.bad refl;
  body = set 265 266 270 name.b (number 272 0)
      (set 275 276 280 name.bad (number 284 1)
      (set 287 288 292 name.n (number 294 1000)
      (loop 302 303 (var 309 name.n) (interact 315 316 (one 325 326 name.w) 329 (codes "MMIOREAD")
      (one_arg (number 338 0x1002404c))
      (set 354 355 359 name.n (op 361 362 o.Sub (var 366 name.n) (number 368 1))
      (cond 376 377 (op 380 381 o.Lts (var 385 name.w) (number 387 0)) 390 391 done 403 404
      (set 409 410 414 name.bad (number 418 0)
      (set 421 422 426 name.b (op 428 429 o.And (var 433 name.w) (number 435 255))
      (set 441 442 446 name.n (number 448 0)
      done)))
      done)))
      done)));
}

abbrev spi_xchg : Function
spi_xchg = record {
  at = 455;
  word_at = 456;
  name_at = 459;
  name = name.spi_xchg;
  args = one 468 469 name.b;
  results = two 472 473 name.r 475 name.bad refl;
  body = set 482 483 487 name.r (number 489 0)
      (call 494 495 (one 500 501 name.bad) 506 name.spi_put (one_arg (var 514 name.b))
      (cond 519 520 (var 523 name.bad) 527 528 done 534 535
      (call 540 541 (two 546 547 name.r 549 name.bad refl) 554 name.spi_get no_args
      done)
      done));
}

abbrev lan_read : Function
lan_read = record {
  at = 566;
  word_at = 567;
  name_at = 570;
  name = name.lan_read;
  args = one 579 580 name.a;
  results = two 583 584 name.v 586 name.bad refl;
  body = set 593 594 598 name.v (number 600 0)
      (interact 605 606 (none 615) 618 (codes "MMIOWRITE") (two_args (number 628 0x10024018) (number 639 2))
      (call 644 645 (two 650 651 name.x 653 name.bad refl) 658 name.spi_xchg (one_arg (number 667 3))
      (cond 672 673 (var 676 name.bad) 680 681 done 687 688
      (call 693 694 (two 699 700 name.x 702 name.bad refl) 707 name.spi_xchg
      (one_arg (op 716 717 o.Sru (var 721 name.a) (number 723 8)))
      done)
      (cond 731 732 (var 735 name.bad) 739 740 done 746 747
      (call 752 753 (two 758 759 name.x 761 name.bad refl) 766 name.spi_xchg
      (one_arg (op 775 776 o.And (var 780 name.a) (number 782 255)))
      done)
      (set 792 793 797 name.i (number 799 0)
      (loop 804 805 (op 811 812 o.Ltu (var 816 name.i) (number 818 4))
      (cond 825 826 (var 829 name.bad) 833 834 done 846 847
      (call 852 853 (two 858 859 name.x 861 name.bad refl) 866 name.spi_xchg (one_arg (number 875 0))
      (set 890 891 895 name.v (op 897 898 o.Or (var 901 name.v)
      (op 903 904 o.Slu (var 908 name.x) (op 910 911 o.Slu (var 915 name.i) (number 917 3))))
      done))
      (set 929 930 934 name.i (op 936 937 o.Add (var 941 name.i) (number 943 1))
      done))
      (interact 950 951 (none 960) 963 (codes "MMIOWRITE") (two_args (number 973 0x10024018) (number 984 0))
      done)))))));
}

abbrev lan_write : Function
lan_write = record {
  at = 988;
  word_at = 989;
  name_at = 992;
  name = name.lan_write;
  args = two 1002 1003 name.a 1005 name.v refl;
  results = one 1008 1009 name.bad;
  body = interact 1016 1017 (none 1026) 1029 (codes "MMIOWRITE") (two_args (number 1039 0x10024018) (number 1050 2))
      (call 1055 1056 (two 1061 1062 name.x 1064 name.bad refl) 1069 name.spi_xchg (one_arg (number 1078 2))
      (cond 1083 1084 (var 1087 name.bad) 1091 1092 done 1098 1099
      (call 1104 1105 (two 1110 1111 name.x 1113 name.bad refl) 1118 name.spi_xchg
      (one_arg (op 1127 1128 o.Sru (var 1132 name.a) (number 1134 8)))
      done)
      (cond 1142 1143 (var 1146 name.bad) 1150 1151 done 1157 1158
      (call 1163 1164 (two 1169 1170 name.x 1172 name.bad refl) 1177 name.spi_xchg
      (one_arg (op 1186 1187 o.And (var 1191 name.a) (number 1193 255)))
      done)
      (set 1203 1204 1208 name.i (number 1210 0)
      (loop 1215 1216 (op 1222 1223 o.Ltu (var 1227 name.i) (number 1229 4))
      (cond 1236 1237 (var 1240 name.bad) 1244 1245 done 1257 1258
      (call 1263 1264 (two 1269 1270 name.x 1272 name.bad refl) 1277 name.spi_xchg
      (one_arg (op 1286 1287 o.And (op 1291 1292 o.Sru (var 1296 name.v)
      (op 1298 1299 o.Slu (var 1303 name.i) (number 1305 3))) (number 1309 255)))
      done)
      (set 1321 1322 1326 name.i (op 1328 1329 o.Add (var 1333 name.i) (number 1335 1))
      done))
      (interact 1342 1343 (none 1352) 1355 (codes "MMIOWRITE") (two_args (number 1365 0x10024018) (number 1376 0))
      done))))));
}

abbrev boot : Function
boot = record {
  at = 1380;
  word_at = 1381;
  name_at = 1384;
  name = name.boot;
  args = none 1389;
  results = one 1392 1393 name.bad;
  body = interact 1400 1401 (one 1410 1411 name.v) 1414 (codes "MMIOREAD") (one_arg (number 1423 0x10012008))
      (interact 1437 1438 (none 1447) 1450 (codes "MMIOWRITE")
      (two_args (number 1460 0x10012008) (op 1471 1472 o.Or (var 1475 name.v) (number 1477 0x800000)))
      (set 1490 1491 1495 name.bad (number 1499 1)
      (set 1502 1503 1507 name.t (number 1509 200)
      (loop 1516 1517 (var 1523 name.t)
      (set 1529 1530 1534 name.t (op 1536 1537 o.Sub (var 1541 name.t) (number 1543 1))
      (call 1551 1552 (two 1557 1558 name.w 1560 name.f refl) 1563 name.lan_read (one_arg (number 1572 100))
      (cond 1582 1583 (var 1586 name.f) 1588 1589 (set 1594 1595 1599 name.t (number 1601 0)
      done) 1611 1612 (cond 1617 1618 (op 1621 1622 o.Eq (var 1625 name.w) (number 1627 0x87654321)) 1639 1640
      (set 1645 1646 1650 name.bad (number 1654 0)
      (set 1657 1658 1662 name.t (number 1664 0)
      done)) 1668 1669 done
      done)
      done)))
      (cond 1681 1682 (var 1685 name.bad) 1689 1690 done 1696 1697
      (call 1702 1703 (one 1708 1709 name.bad) 1714 name.lan_write (two_args (number 1724 116) (number 1729 1))
      done)
      done)))));
}

abbrev receive : Function
receive = record {
  at = 1735;
  word_at = 1736;
  name_at = 1739;
  name = name.receive;
  args = one 1747 1748 name.p;
  results = two 1751 1752 name.n 1754 name.bad refl;
  body = call 1761 1762 (two 1767 1768 name.n 1770 name.bad refl) 1775 name.lan_read (one_arg (number 1784 64))
      (cond 1792 1793 (var 1796 name.bad) 1800 1801 done 1811 1812
      (set 1823 1824 1828 name.n (op 1830 1831 o.And (var 1835 name.n) (number 1837 65535))
      (set 1846 1847 1851 name.i (number 1853 0)
      (loop 1862 1863 (op 1869 1870 o.Ltu (var 1874 name.i) (var 1876 name.n))
      (call 1887 1888 (two 1893 1894 name.w 1896 name.bad refl) 1901 name.lan_read (one_arg (number 1910 0))
      (cond 1921 1922 (var 1925 name.bad) 1929 1930 (set 1935 1936 1940 name.n (number 1942 0)
      done) 1956 1957 (cond 1974 1975 (op 1978 1979 o.Ltu (var 1983 name.i) (number 1985 1520)) 1991 1992
      (store4 1997 1998 (op 2005 2006 o.Add (var 2010 name.p) (var 2012 name.i)) (var 2015 name.w)
      done) 2019 2020 done
      (set 2039 2040 2044 name.i (op 2046 2047 o.Add (var 2051 name.i) (number 2053 4))
      done))
      done))
      done)))
      done);
}

abbrev handle : Function
handle = record {
  at = 2063;
  word_at = 2064;
  name_at = 2067;
  name = name.handle;
  args = two 2074 2075 name.p 2077 name.n refl;
  results = none 2080;
  body = cond 2085 2086 (op 2089 2090 o.Ltu (var 2094 name.n) (number 2096 43)) 2100 2101 done 2107 2108
      (cond 2113 2114 (op 2117 2118 o.Ltu (number 2122 1520) (var 2127 name.n)) 2130 2131 done 2137 2138
      (cond 2147 2148 (op 2151 2152 o.Eq (load1 2155 2156 (op 2162 2163 o.Add (var 2167 name.p) (number 2169 12)))
      (number 2174 8)) 2177 2178 (cond 2189 2190
      (op 2193 2194 o.Eq (load1 2197 2198 (op 2204 2205 o.Add (var 2209 name.p) (number 2211 13))) (number 2216 0))
      2219 2220 (cond 2233 2234 (op 2237 2238 o.Eq
      (load1 2241 2242 (op 2248 2249 o.Add (var 2253 name.p) (number 2255 23))) (number 2260 17)) 2264 2265
      (interact 2280 2281 (one 2290 2291 name.v) 2294 (codes "MMIOREAD") (one_arg (number 2303 0x1001200c))
      (interact 2325 2326 (none 2335) 2338 (codes "MMIOWRITE")
      (two_args (number 2348 0x1001200c)
      (op 2371 2372 o.Or (op 2375 2376 o.And (var 2380 name.v) (number 2382 0xff7fffff))
      (op 2410 2411 o.Slu (op 2415 2416 o.And
      (load1 2420 2421 (op 2427 2428 o.Add (var 2432 name.p) (number 2434 42))) (number 2439 1)) (number 2442 23))))
      done)) 2457 2458 done
      done) 2466 2467 done
      done) 2475 2476 done
      done)
      done)
      done;
}

abbrev poll : Function
poll = record {
  at = 2488;
  word_at = 2489;
  name_at = 2492;
  name = name.poll;
  args = none 2497;
  results = one 2500 2501 name.bad;
  body = call 2508 2509 (two 2514 2515 name.w 2517 name.bad refl) 2522 name.lan_read (one_arg (number 2531 124))
      (cond 2539 2540 (var 2543 name.bad) 2547 2548 done 2558 2559
      (cond 2564 2565 (var 2568 name.w) 2576 2577
      (stackalloc 2582 2583 2594 name.p 2596 1520 refl
      (call 2609 2610 (two 2615 2616 name.n 2618 name.bad refl) 2623 name.receive (one_arg (var 2631 name.p))
      (cond 2642 2643 (var 2646 name.bad) 2650 2651 done 2657 2658
      (call 2663 2664 (none 2669) 2672 name.handle (two_args (var 2679 name.p) (var 2681 name.n))
      done)
      done))
      done) 2694 2695 done
      done)
      done);
}

abbrev main : Function
main = record {
  at = 2705;
  word_at = 2706;
  name_at = 2709;
  name = name.main;
  args = none 2714;
  results = one 2717 2718 name.bad;
  body = call 2725 2726 (one 2731 2732 name.bad) 2737 name.boot no_args
      (loop 2745 2746 (op 2752 2753 o.Eq (var 2756 name.bad) (number 2760 0))
      (call 2763 2764 (one 2769 2770 name.x) 2773 name.poll no_args
      done)
      done);
}

abbrev all_functions : List Function
all_functions = spi_put ∷ spi_get ∷ spi_xchg ∷ lan_read ∷ lan_write ∷ boot ∷ receive ∷ handle ∷ poll ∷ main ∷ []

-- without the offsets they are the firmware's functions
bare_is : map bare_function all_functions ≡ firmware
bare_is = refl

abbrev all_trees : forest.Forest
all_trees = functions_forest all_functions

trees_are : forest.trees all_trees ≡ map function_tree all_functions
trees_are = refl

-- the text has the tokens of these trees
text_tokens : map kept (tokens_of 0 (pieces outside firmware_text)) ≡ forest.tokens all_trees
unfolding firmware_text
text_tokens = refl

reads : Reads firmware_text (forest.trees all_trees)
reads = record {
  pieces = pieces outside firmware_text;
  layout = layout firmware_text;
  tokens = text_tokens ∙ sym (forest.tokens_are all_trees);
  shallow = subst (λ h. h ≤ 256) (sym (forest.height_is all_trees)) (omega arith);
}

-- so it stands for them
pub stands : (fs : List Func) × IsFirmware fs
stands = (
  map placed all_functions,
  (forest.trees all_trees, reads, ap functions trees_are ∙ functions_read all_functions),
)

-- and for no others
exact : (fs : List Func) → IsFirmware fs → fs ≡ map placed all_functions
exact fs (ts, r, d) =
    let same : ts ≡ map function_tree all_functions = reads-one firmware_text ts (forest.trees all_trees) r reads
    ∙ trees_are in
    let there : functions ts ≡ Ok (map placed all_functions) = ap functions same ∙ functions_read all_functions in
    cc

placed_are : IsEqualUpToOffsets (map placed all_functions) firmware
placed_are = sym (unplaced_again (map placed all_functions))
    ∙ ap without_offsets (functions_bare all_functions ∙ bare_is)

pub is_firmware : (fs : List Func) → IsFirmwareUpToOffsets fs → IsEqualUpToOffsets fs firmware
is_firmware fs (others, is, equal) = equal ∙ ap without_offsets (exact others is) ∙ placed_are
